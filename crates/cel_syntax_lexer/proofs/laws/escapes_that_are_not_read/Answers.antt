use Rattle.std.proofs.Common.{refl}
use Rattle.std.specs.Char.{encode_utf8}
use Rattle.std.specs.Str.{chars, is_utf8}
use Rattle.cel_syntax_lexer.specs.Escape.{letter_code, digits_code, octet_code, unicode_code, escape, code_bytes, unescaped_after}
use Rattle.cel_syntax_lexer.specs.Number.{is_digit_in, is_numeral, numeral_value}
use Rattle.cel_syntax_lexer.specs.StringValues.{between, body_of, content_bytes, quoted_value}
use Rattle.cel_syntax_lexer.proofs.laws.escapes_that_are_not_read.Goals as goal

pub returns : goal.returns
unfolding quoted_value content_bytes body_of between unescaped_after escape code_bytes letter_code octet_code unicode_code digits_code numeral_value is_numeral is_digit_in is_utf8 chars encode_utf8
returns c = record { unknown = refl; cut_short = refl; octal_past_a_byte = refl; surrogate = refl; past_unicode = refl; unicode_in_bytes = refl; with_minus = refl }
