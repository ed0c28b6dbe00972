-- Trusted by the headline.
-- Functions on quantities (Kubernetes documentation, "CEL in Kubernetes",
-- quantity library; `Quantity` in `k8s.io/apiserver/pkg/cel/library`). A
-- sum or a difference is exact, or an error if a quantity can't hold it.
use Rattle.std.specs.Prelude.{ℕ, ℤ, pos, List, codes, Option, None, Some, option_map, Result, Ok, Err, is_ok, is_some}
use Rattle.std.specs.Option.{option_map_or}
use Rattle.std.specs.Int.{int_signum}
use Rattle.kube_types.specs.Quantity.Decimal.{Decimal}
use Rattle.kube_types.specs.Quantity.Integers.{integer_of, integer_error_text}
use Rattle.kube_types.specs.Quantity.Normal.{normal_form}
use Rattle.kube_types.specs.Quantity.Reading as reading
use Rattle.kube_types.specs.Quantity.Sums.{decimal_at, sum_of, difference_of}
use Rattle.kube_types.specs.declared.quantities.integer.IntegerError.{IntegerError}
use Rattle.cel_value.specs.Data.{Data, int, uint, text, quantity}
use Rattle.cel_semantics.specs.Outcome.{Outcome}
use Rattle.kube_functions_types.specs.Answers.{refusal, wrong_kind, bool_answer, value_or}

-- `quantity`: parses a string as a quantity
abbrev pub quantity_of : Data → Outcome
quantity_of (text s) =
    value_or (refusal (codes "quantity") (codes "invalid quantity")) quantity (reading.quantity_of s)
quantity_of _ = wrong_kind (codes "quantity")

-- `isQuantity`: does a string parse as a quantity?
abbrev pub is_quantity : Data → Outcome
is_quantity (text s) = bool_answer (is_some (reading.quantity_of s))
is_quantity _ = wrong_kind (codes "isQuantity")

-- `isInteger`: does `asInteger` return an int?
abbrev pub is_integer : Data → Outcome
is_integer (quantity q) = bool_answer (is_ok (integer_of q))
is_integer _ = wrong_kind (codes "isInteger")

-- the int, or the error with the reason why there is none
abbrev pub int_or_why : Result ℤ IntegerError → Outcome
int_or_why (Ok n) = Ok (int n)
int_or_why (Err e) = refusal (codes "asInteger") (integer_error_text e)

-- `asInteger`: the quantity as an int
abbrev pub as_integer : Data → Outcome
as_integer (quantity q) = int_or_why (integer_of q)
as_integer _ = wrong_kind (codes "asInteger")

-- `sign`: -1, 0 or 1
abbrev pub sign_of : Data → Outcome
sign_of (quantity q) = Ok (int (int_signum q.mantissa))
sign_of _ = wrong_kind (codes "sign")

-- the operand of a sum or difference: a quantity, an int or a uint as a number
abbrev pub amount_of : Data → Option Decimal
amount_of (quantity q) = Some q
amount_of (int n) = Some (normal_form (decimal_at n (pos 0)))
amount_of (uint n) = Some (normal_form (decimal_at (pos n) (pos 0)))
amount_of _ = None

-- both operands of a sum or difference as numbers
abbrev pub amounts_of : Data → Data → Option (Decimal × Decimal)
amounts_of (quantity q) w = option_map (λ amount. (q, amount)) (amount_of w)
amounts_of _ w = None

-- the quantity that an operation makes of both operands; `name` is the function's name in errors
abbrev pub combination_outcome : List ℕ → (Decimal → Decimal → Option Decimal) → Data → Data → Outcome
combination_outcome name op v w =
    option_map_or (λ p. value_or (refusal name (codes "quantity overflow")) quantity (op p.0 p.1))
    (amounts_of v w) (wrong_kind name)

-- `add`: the exact sum of a quantity and a quantity, an int or a uint
abbrev pub quantity_sum : Data → Data → Outcome
quantity_sum = combination_outcome (codes "add") sum_of

-- `sub`: the exact difference
abbrev pub quantity_difference : Data → Data → Outcome
quantity_difference = combination_outcome (codes "sub") difference_of
