use Rattle.cel_syntax_lexer.proofs.Strings.{longest_prefixed}
use Rattle.kube_server_lexer.proofs.string_literal.prefixed_length.Goals as goal

pub returns-clause-spelling : goal.returns-clause-spelling
returns-clause-spelling c =
    rw c.max.ensures (longest_prefixed c.args.text.now c.raw_string_length.result c.bytes_length.result c.raw_string_length.ensures.spelling c.bytes_length.ensures.spelling)
