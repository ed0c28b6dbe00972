use Rattle.std.proofs.Common.{sym, ◌∙◌}
use Rattle.cel_syntax_lexer.proofs.Numbers.{longest_digits, longest_signed}
use Rattle.kube_server_lexer.proofs.number.signed_length.Goals as goal

pub returns-then-begins_either-clause-spelling : goal.returns-then-begins_either-clause-spelling
returns-then-begins_either-clause-spelling c =
    rw c.longer.ensures (longest_signed c.args.text.now c.digits_length.result (sym c.begins_either.ensures.value ∙ c.if-begins_either.true) (rw (c.digits_length.ensures.value, c.after.ensures) (longest_digits _)))
