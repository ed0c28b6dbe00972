-- Trusted by the headline.
-- The normal form of a number: the mantissa has no trailing zeros, and zero has the scale 0.
-- Source: the canonical form in the documentation of `Quantity`,
-- `k8s.io/apimachinery/pkg/api/resource` of Kubernetes.
use Rattle.std.specs.Prelude.{◌≡◌, ℕ, zero, suc, Bool, true, ◌&&◌, ◌/◌, ◌%◌, ◌^◌, ◌==◌, ℤ, pos, negsuc, ◌+ℤ◌, unsigned_abs, nat_lt, Option, Some, None, if◌then◌else◌}
use Rattle.std.specs.Int.{is_negative}
use Rattle.kube_types.specs.Quantity.Decimal.{Decimal, with_sign}

-- the mantissa and the scale are in normal form
abbrev pub is_normal : ℤ → ℤ → Bool
is_normal mantissa scale =
    if unsigned_abs mantissa % 10 == 0 then (unsigned_abs mantissa == 0) && (unsigned_abs scale == 0)
    else true

-- the number of trailing zeros of n among its last `most` digits
unfoldable pub zeros_among : ℕ → ℕ → ℕ
zeros_among zero n = 0
zeros_among (suc most) n = if n % 10 == 0 then suc (zeros_among most (n / 10)) else 0

-- the number of trailing zeros of n (it has no more than n digits), and 0 for 0
abbrev pub trailing_zeros : ℕ → ℕ
trailing_zeros n = zeros_among n n

-- z without its trailing zeros
abbrev pub mantissa_without_zeros : ℤ → ℤ
mantissa_without_zeros z = with_sign (is_negative z) (unsigned_abs z / 10 ^ trailing_zeros (unsigned_abs z))

-- the same number in normal form: trailing zeros are moved into the scale
unfoldable pub normal_form : Decimal → Decimal
normal_form x = record {
  mantissa = mantissa_without_zeros x.mantissa;
  scale = if unsigned_abs x.mantissa == 0 then pos 0
      else x.scale +ℤ pos (trailing_zeros (unsigned_abs x.mantissa));
}

-- a signed integer with this many bits beside its sign can hold z
abbrev pub fits : ℕ → ℤ → Bool
fits bits (pos n) = nat_lt n (2 ^ bits)
fits bits (negsuc n) = nat_lt n (2 ^ bits)

-- the quantity with this number: its normal form, or none if the scale exceeds 32 bits
unfoldable pub quantity_holding : Decimal → Option Decimal
quantity_holding x = if fits 31 (normal_form x).scale then Some (normal_form x) else None

-- x is in normal form
abbrev pub IsNormal : Decimal → Type 0
IsNormal x = is_normal x.mantissa x.scale ≡ true
