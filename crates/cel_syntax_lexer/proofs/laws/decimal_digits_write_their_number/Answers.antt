use Rattle.cel_syntax_lexer.proofs.Decimals.{int_is, negative_is, uint_is}
use Rattle.cel_syntax_lexer.proofs.laws.decimal_digits_write_their_number.Goals as goal

pub returns : goal.returns
returns c = record { int = int_is; negative = negative_is; uint = uint_is }
