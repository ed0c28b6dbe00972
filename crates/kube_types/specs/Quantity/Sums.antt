-- Trusted by the headline.
-- Sums and differences of quantities.
use Rattle.std.specs.Prelude.{◌&&◌, ℤ, ◌+ℤ◌, ◌-ℤ◌, Option, None, if◌then◌else◌}
use Rattle.std.specs.Int.{int_min}
use Rattle.kube_types.specs.Quantity.Decimal.{Decimal, aligned_mantissa}
use Rattle.kube_types.specs.Quantity.Normal.{fits, quantity_holding}

-- the number with this mantissa and this scale
abbrev pub decimal_at : ℤ → ℤ → Decimal
decimal_at m s = record { mantissa = m; scale = s }

-- The number whose mantissa is the operation's result on both mantissas
-- at the smaller scale. None if these mantissas or the result don't fit
-- in 128 bits, or the scale of the normal form in 32 bits.
abbrev pub combination : (ℤ → ℤ → ℤ) → Decimal → Decimal → Option Decimal
combination op x y =
    if fits 127 (aligned_mantissa x y)
    && (fits 127 (aligned_mantissa y x) && fits 127 (op (aligned_mantissa x y) (aligned_mantissa y x)))
    then quantity_holding
    (decimal_at (op (aligned_mantissa x y) (aligned_mantissa y x)) (int_min x.scale y.scale))
    else None

-- the exact sum
unfoldable pub sum_of : Decimal → Decimal → Option Decimal
sum_of x y = combination (λ a b. a +ℤ b) x y

-- the exact difference
unfoldable pub difference_of : Decimal → Decimal → Option Decimal
difference_of x y = combination (λ a b. a -ℤ b) x y
