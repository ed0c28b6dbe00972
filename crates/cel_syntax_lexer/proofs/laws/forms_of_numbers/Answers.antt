use Rattle.std.proofs.Common.{refl}
use Rattle.cel_syntax_lexer.specs.Number.{is_digit_in, is_numeral, numeral_value, is_integer, integer_value, int_value, uint_value, is_exponent, is_fraction, is_double, number_value}
use Rattle.cel_syntax_lexer.proofs.laws.forms_of_numbers.Goals as goal

pub returns : goal.returns
unfolding number_value is_double is_fraction is_exponent int_value uint_value integer_value is_integer numeral_value is_numeral is_digit_in
returns c = record {
  hexadecimal = refl;
  unsigned = refl;
  no_minus = refl;
  too_large = refl;
  least = refl;
  fraction = λ negative. refl;
  no_whole = λ negative. refl;
  exponent = λ negative. refl;
  no_fraction = λ negative. refl;
  no_exponent = λ negative. refl;
}
