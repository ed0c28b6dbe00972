use Rattle.cel_syntax_lexer.proofs.Strings.{longest_after_b}
use Rattle.kube_server_lexer.proofs.string_literal.after_b_length.Goals as goal

pub returns-clause-spelling : goal.returns-clause-spelling
returns-clause-spelling c =
    rw c.max.ensures (longest_after_b c.args.text.now c.string_length.result c.raw_string_length.result c.string_length.ensures.spelling c.raw_string_length.ensures.spelling)
