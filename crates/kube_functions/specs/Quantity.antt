-- Trusted by the headline.
-- The answers of the functions on quantities (Kubernetes documentation, "CEL in Kubernetes",
-- quantity library). `compareTo`, `isGreaterThan` and `isLessThan` also compare versions.
use Rattle.std.specs.Prelude.{ℕ, List, Option, Some, None, Err}
use Rattle.cel_value.specs.Data.{Data}
use Rattle.cel_value.specs.Faults.{no_overload}
use Rattle.cel_semantics.specs.Outcome.{Outcome}
use Rattle.kube_functions_types.specs.Order as order
use Rattle.kube_functions_types.specs.Quantity as quantities
use Rattle.kube_functions.specs.declared.libraries.quantity.QuantityFunction.{QuantityFunction}
use Rattle.kube_functions.specs.declared.libraries.quantity.QuantityFunction.TheVariants as function

-- the answer to a call with these operands, the receiver
-- first; `name` is the function's name in errors
abbrev pub answer : QuantityFunction → List ℕ → Option Data → Option Data → Outcome
answer function.Quantity name (Some v) w = quantities.quantity_of v
answer function.IsQuantity name (Some v) w = quantities.is_quantity v
answer function.Add name (Some v) (Some w) = quantities.quantity_sum v w
answer function.AsInteger name (Some v) w = quantities.as_integer v
answer function.CompareTo name (Some v) (Some w) = order.compare_to v w
answer function.IsGreaterThan name (Some v) (Some w) = order.is_greater_than v w
answer function.IsInteger name (Some v) w = quantities.is_integer v
answer function.IsLessThan name (Some v) (Some w) = order.is_less_than v w
answer function.Sign name (Some v) w = quantities.sign_of v
answer function.Sub name (Some v) (Some w) = quantities.quantity_difference v w
answer f name None w = Err (no_overload name)
answer f name v None = Err (no_overload name)
