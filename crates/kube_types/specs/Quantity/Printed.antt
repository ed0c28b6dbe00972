-- Trusted by the clauses of other library calls.
-- The text of a quantity: its decimal number in full, with `0.` before a pure fraction.
use Rattle.std.specs.Prelude.{◌-◌, ◌/◌, ◌%◌, ◌^◌, ℕ, suc, ℤ, pos, negsuc, unsigned_abs, List, ◌∷◌, ◌++◌, length, replicate}
use Rattle.std.specs.Fmt.{decimal, signed_decimal, sign_text}
use Rattle.std.specs.Int.{is_negative}
use Rattle.kube_types.specs.Quantity.Decimal.{Decimal}

-- n in decimal, with leading zeros (48) up to this number of places
abbrev pub places_text : ℕ → ℕ → List ℕ
places_text places n = replicate (places - length (decimal n)) 48 ++ decimal n

-- the digits of the absolute value of m, with the last `places` after the point (46)
abbrev pub pointed_text : ℤ → ℕ → List ℕ
pointed_text m places = sign_text (is_negative m)
    ++ (decimal (unsigned_abs m / 10 ^ places) ++ (46 ∷ places_text places (unsigned_abs m % 10 ^ places)))

-- a mantissa at a scale: with zeros after it or a point in it
abbrev pub scaled_text : ℤ → ℤ → List ℕ
scaled_text m (pos zeros) = signed_decimal m ++ replicate zeros 48
scaled_text m (negsuc n) = pointed_text m (suc n)

-- the text of a quantity
unfoldable pub decimal_text : Decimal → List ℕ
decimal_text x = scaled_text x.mantissa x.scale
