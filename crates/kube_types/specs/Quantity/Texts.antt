-- Trusted by laws alone.
-- The meaning of a quantity's text as a whole: a number with
-- an optional sign, and a suffix that it is multiplied by.
-- Source: the grammar and the suffixes in the documentation of `Quantity`,
-- `k8s.io/apimachinery/pkg/api/resource` of Kubernetes.
use Rattle.std.specs.Prelude.{◌≡◌, ◌+◌, ◌*◌, ◌^◌, ◌<◌, ◌⊎◌, Bool, true, false, ℕ, ℤ, pos, negsuc, ◌-ℤ◌, List, [], ◌∷◌, ◌++◌, length, codes}
use Rattle.std.specs.Char.{is_ascii_digit}
use Rattle.std.specs.List.{list_all}
use Rattle.std.specs.Str.{trim}
use Rattle.std.specs.Str.Parse.{digits_value}
use Rattle.kube_types.specs.Quantity.Decimal.{Decimal, SameNumber, with_sign}
use Rattle.kube_types.specs.Quantity.Normal.{IsNormal, fits}
use Rattle.kube_types.specs.Quantity.Reading.{power_of_ten, whole_factor}
use Rattle.kube_types.specs.Quantity.Sums.{decimal_at}
use Rattle.kube_types.specs.declared.quantities.reading.Factor.{Factor}

-- nothing but digits
abbrev pub AreDigits : List ℕ → Type 0
AreDigits text = list_all is_ascii_digit text ≡ true

-- no sign, a plus or a minus; `negative` says if it is a minus
abbrev pub IsSign : List ℕ → Bool → Type 0
IsSign sign negative = ((sign ≡ codes "") × (negative ≡ false))
    ⊎ (((sign ≡ codes "+") × (negative ≡ false)) ⊎ ((sign ≡ codes "-") × (negative ≡ true)))

-- <number>: at least one digit, and at most one point, with the digits before and after it
abbrev pub IsNumber : List ℕ → List ℕ → List ℕ → Type 0
IsNumber text whole fraction = AreDigits whole × AreDigits fraction × (0 < length whole + length fraction)
    × (((text ≡ whole) × (fraction ≡ [])) ⊎ (text ≡ whole ++ (codes "." ++ fraction)))

-- <decimalSI> and <binarySI>: each suffix with its factor
abbrev pub suffixes : List (List ℕ × Factor)
suffixes =
    (codes "", power_of_ten (pos 0))
    ∷ (codes "n", power_of_ten (negsuc 8))
    ∷ (codes "u", power_of_ten (negsuc 5))
    ∷ (codes "m", power_of_ten (negsuc 2))
    ∷ (codes "k", power_of_ten (pos 3))
    ∷ (codes "M", power_of_ten (pos 6))
    ∷ (codes "G", power_of_ten (pos 9))
    ∷ (codes "T", power_of_ten (pos 12))
    ∷ (codes "P", power_of_ten (pos 15))
    ∷ (codes "E", power_of_ten (pos 18))
    ∷ (codes "Ki", whole_factor (2 ^ 10))
    ∷ (codes "Mi", whole_factor (2 ^ 20))
    ∷ (codes "Gi", whole_factor (2 ^ 30))
    ∷ (codes "Ti", whole_factor (2 ^ 40))
    ∷ (codes "Pi", whole_factor (2 ^ 50))
    ∷ (codes "Ei", whole_factor (2 ^ 60))
    ∷ []

-- the table contains the text with the factor
abbrev pub IsRow : List (List ℕ × Factor) → List ℕ → Factor → Type 0
IsRow [] text factor = ⊥
IsRow (row ∷ rows) text factor = ((text ≡ row.0) × (factor ≡ row.1)) ⊎ IsRow rows text factor

-- <decimalExponent>: `e` or `E`, and digits with an optional sign, whose number fits in 32 bits
pub record IsExponent (text : List ℕ) (exponent : ℤ) : Type 0 where
  pub letter : List ℕ
  pub sign : List ℕ
  pub negative : Bool
  pub digits : List ℕ
  pub spelled : text ≡ letter ++ (sign ++ digits)
  pub letter_text : (letter ≡ codes "e") ⊎ (letter ≡ codes "E")
  pub sign_text : IsSign sign negative
  pub digits_text : AreDigits digits
  pub some_digit : 0 < length digits
  pub value : with_sign negative (digits_value 10 digits) ≡ exponent
  pub within : fits 31 exponent ≡ true

-- <suffix>: one in the table, or an exponent of ten
abbrev pub IsSuffix : List ℕ → Factor → Type 0
IsSuffix text factor = IsRow suffixes text factor
    ⊎ ((exponent : ℤ) × IsExponent text exponent × (power_of_ten exponent ≡ factor))

-- The text is a quantity whose number is x, in normal form. White space at both
-- ends is ignored, and x is the number with its sign, times the factor of the
-- suffix. A signed integer of 128 bits can hold the digits times the whole number
-- of the factor before the sign is applied, and 32 bits can hold the scale of x.
pub record IsQuantityText (text : List ℕ) (x : Decimal) : Type 0 where
  pub sign : List ℕ
  pub negative : Bool
  pub number : List ℕ
  pub whole : List ℕ
  pub fraction : List ℕ
  pub suffix : List ℕ
  pub factor : Factor
  pub spelled : trim text ≡ sign ++ (number ++ suffix)
  pub sign_text : IsSign sign negative
  pub number_text : IsNumber number whole fraction
  pub suffix_text : IsSuffix suffix factor
  pub size_within : digits_value 10 (whole ++ fraction) * factor.times < 2 ^ 127
  pub normal : IsNormal x
  pub value : SameNumber x
      (decimal_at (with_sign negative (digits_value 10 (whole ++ fraction) * factor.times))
      (factor.tens -ℤ pos (length fraction)))
  pub scale_within : fits 31 x.scale ≡ true
