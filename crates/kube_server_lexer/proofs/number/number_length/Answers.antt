use Rattle.cel_syntax_lexer.proofs.Numbers.{longest_number}
use Rattle.kube_server_lexer.proofs.number.number_length.Goals as goal

pub returns-clause-spelling : goal.returns-clause-spelling
returns-clause-spelling c =
    rw (c.max-2.ensures, c.max.ensures)
    (longest_number c.args.text.now c.hexadecimal_length.result c.fraction_length.result c.decimal_length.result c.hexadecimal_length.ensures.spelling c.fraction_length.ensures.spelling c.decimal_length.ensures.spelling)
