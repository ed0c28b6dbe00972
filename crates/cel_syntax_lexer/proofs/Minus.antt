-- Literals with a minus.
use Rattle.std.proofs.Common.{◌≡◌, ℕ, refl, Bool, true, false, Option, Some, None, List, cond, ◌||◌, option_map}
use Rattle.std.specs.Option.{option_and_then}
use Rattle.cel_value.specs.Data.{Data, uint}
use Rattle.cel_syntax_lexer.specs.Token.{Token, word, number, quoted, punctuator}
use Rattle.cel_syntax_lexer.specs.Literal.{literal_value, takes_minus}
use Rattle.cel_syntax_lexer.specs.Number.{numeral_value, is_integer, integer_value, uint_value, is_double, is_unsigned, without_last, goes_with_minus, number_value}

neither : (a b : Bool) → (a || b) ≡ false → (a ≡ false) × (b ≡ false)
neither true b e = absurd (cc)
neither false b e = (refl, e)

no_integer : (s : List ℕ) → is_integer s ≡ false → integer_value s ≡ None
unfolding is_integer integer_value numeral_value
no_integer s e = rw e

no_uint : (o : Option ℕ) → option_map uint (option_and_then (uint_value true) o) ≡ None
unfolding uint_value
no_uint None = refl
no_uint (Some n) = refl

one_none : (b : Bool) (o p : Option Data) → o ≡ None → p ≡ None → cond b o p ≡ None
one_none true o p e f = e
one_none false o p e f = f

no_number : (s : List ℕ) → goes_with_minus s ≡ false → number_value true s ≡ None
unfolding goes_with_minus number_value
no_number s e =
    let parts = neither (is_double s) (is_integer s) e in
    rw parts.0 (one_none (is_unsigned s) _ _ (no_uint (integer_value (without_last s))) (rw (no_integer s parts.1)))

pub no_literal : (t : Token) → takes_minus t ≡ false → literal_value true t ≡ None
no_literal (word w) e = refl
no_literal (number s) e = no_number s e
no_literal (quoted s) e = refl
no_literal (punctuator m) e = refl
