-- Trusted by the headline.
-- Decimal numbers as an integer and a power of ten, and their order.
-- Source: the documentation of `Quantity` in `k8s.io/apimachinery/pkg/api/resource` of Kubernetes:
-- a quantity is a fixed-point number, and its canonical form has no superfluous zeros.
use Rattle.std.specs.Prelude.{◌≡◌, ℕ, ◌^◌, Bool, ℤ, pos, negsuc, neg_ℤ, ◌-ℤ◌, ◌*ℤ◌, if◌then◌else◌}
use Rattle.std.specs.Ordering.{int_cmp}
use Rattle.std.specs.declared.cmp.Ordering.{Ordering}

-- the number `mantissa` times 10 to the `scale`
pub record Decimal : Type 0 where
  pub mantissa : ℤ
  pub scale : ℤ

-- z, or 0 if z is negative
abbrev pub natural : ℤ → ℕ
natural (pos n) = n
natural (negsuc n) = 0

-- z times 10 to the k
abbrev pub times_ten_to : ℤ → ℕ → ℤ
times_ten_to z k = z *ℤ pos (10 ^ k)

-- The mantissa of x at the smaller of the two scales: x is this integer times 10 to that scale.
abbrev pub aligned_mantissa : Decimal → Decimal → ℤ
aligned_mantissa x y = times_ten_to x.mantissa (natural (x.scale -ℤ y.scale))

-- The order of two numbers: the order of their mantissas at the smaller scale.
abbrev pub decimal_cmp : Decimal → Decimal → Ordering
decimal_cmp x y = int_cmp (aligned_mantissa x y) (aligned_mantissa y x)

-- x and y are the same number
abbrev pub SameNumber : Decimal → Decimal → Type 0
SameNumber x y = aligned_mantissa x y ≡ aligned_mantissa y x

-- the number with this sign and absolute value
abbrev pub with_sign : Bool → ℕ → ℤ
with_sign negative n = if negative then neg_ℤ (pos n) else pos n
