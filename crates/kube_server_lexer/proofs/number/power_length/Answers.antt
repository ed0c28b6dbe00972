use Rattle.cel_syntax_lexer.proofs.Numbers.{longest_digits, longest_power}
use Rattle.kube_server_lexer.proofs.number.power_length.Goals as goal

pub returns-clause-spelling : goal.returns-clause-spelling
returns-clause-spelling c =
    rw c.max.ensures (longest_power c.args.text.now c.digits_length.result c.signed_length.result (rw c.digits_length.ensures.value (longest_digits c.args.text.now)) c.signed_length.ensures.spelling)
