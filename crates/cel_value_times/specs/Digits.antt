-- Trusted by the headline.
-- Decimal digits, and the numbers that they denote.
use Rattle.std.specs.Prelude.{ℕ, zero, suc, ◌+◌, ◌-◌, ◌*◌, ◌/◌, ◌%◌, ◌^◌, ◌==◌, List, [], ◌∷◌, length, Option, Some, None, if◌then◌else◌}

-- the number that digits denote
abbrev pub number : List ℕ → ℕ
number [] = 0
number (c ∷ cs) = (c - 48) * 10 ^ length cs + number cs

-- how many of a unit's parts the digits after a dot denote, truncated to a whole number
abbrev pub cut_part : ℕ → List ℕ → ℕ
cut_part parts digits = number digits * parts / 10 ^ length digits

-- the digits after a dot, if there is one
abbrev pub digits_after_dot : Option (List ℕ) → List ℕ
digits_after_dot None = []
digits_after_dot (Some digits) = digits

-- the dot and the digits after it
abbrev pub fraction_text : Option (List ℕ) → List ℕ
fraction_text None = []
fraction_text (Some digits) = 46 ∷ digits

-- the decimal places of n / 10 ^ places, without trailing zeros
unfoldable pub places_text : ℕ → ℕ → List ℕ
places_text zero n = []
places_text (suc places) n =
    if n == 0 then [] else (48 + n / 10 ^ places) ∷ places_text places (n % 10 ^ places)

-- the same after a dot; nothing if n is 0
abbrev pub decimals_text : ℕ → ℕ → List ℕ
decimals_text places n = if n == 0 then [] else 46 ∷ places_text places n
