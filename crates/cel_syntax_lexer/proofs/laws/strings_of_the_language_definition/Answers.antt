use Rattle.std.proofs.Common.{refl}
use Rattle.std.specs.Char.{encode_utf8}
use Rattle.std.specs.Str.{chars, is_utf8}
use Rattle.cel_syntax_lexer.specs.Escape.{letter_code, digits_code, octet_code, unicode_code, escape, code_bytes, unescaped_after}
use Rattle.cel_syntax_lexer.specs.Number.{is_digit_in, is_numeral, numeral_value}
use Rattle.cel_syntax_lexer.specs.StringValues.{between, body_of, content_bytes, quoted_value}
use Rattle.cel_syntax_lexer.proofs.laws.strings_of_the_language_definition.Goals as goal

pub returns : goal.returns
unfolding quoted_value content_bytes body_of between unescaped_after escape code_bytes letter_code octet_code unicode_code digits_code numeral_value is_numeral is_digit_in is_utf8 chars encode_utf8
returns c = record { empty = refl; other_quotes = refl; tripled = refl; quote = refl; backslash = refl; raw = refl; letters = refl; in_utf8 = refl; octal_pair = refl; octal = refl; octal_text = refl }
