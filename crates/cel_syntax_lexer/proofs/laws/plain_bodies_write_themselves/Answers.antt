use Rattle.cel_syntax_lexer.proofs.Plain.{string_plain, bytes_plain, raw_plain}
use Rattle.cel_syntax_lexer.proofs.laws.plain_bodies_write_themselves.Goals as goal

pub returns : goal.returns
returns c = record { string = string_plain; bytes = bytes_plain; raw = raw_plain }
