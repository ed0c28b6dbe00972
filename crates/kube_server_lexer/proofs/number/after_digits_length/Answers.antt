use Rattle.cel_syntax_lexer.proofs.Numbers.{longest_after_digits}
use Rattle.kube_server_lexer.proofs.number.after_digits_length.Goals as goal

pub returns-clause-spelling : goal.returns-clause-spelling
returns-clause-spelling c =
    rw (c.max-2.ensures, c.max.ensures)
    (longest_after_digits c.args.text.now c.suffix_length.result c.fraction_length.result c.exponent_length.result c.suffix_length.ensures.spelling c.fraction_length.ensures.spelling c.exponent_length.ensures.spelling)
