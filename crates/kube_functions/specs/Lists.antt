-- Trusted by the headline.
-- The answers of the functions on lists (documentation of CEL-Go,
-- "Lists"; Kubernetes documentation, "CEL in Kubernetes", list library).
use Rattle.std.specs.Prelude.{ℕ, List, Option, Some, None, Err}
use Rattle.cel_value.specs.Data.{Data}
use Rattle.cel_value.specs.Faults.{no_overload}
use Rattle.cel_semantics.specs.Outcome.{Outcome}
use Rattle.kube_functions_lists.specs.Lists as lists
use Rattle.kube_functions_lists.specs.Orders as orders
use Rattle.kube_functions_lists.specs.Sums as sums
use Rattle.kube_functions.specs.declared.libraries.lists.ListsFunction.{ListsFunction}
use Rattle.kube_functions.specs.declared.libraries.lists.ListsFunction.TheVariants as function

-- the answer to a call with these operands, the receiver
-- first; `name` is the function's name in errors
abbrev pub answer : ListsFunction → List ℕ → Option Data → Option Data → Option Data → Outcome
answer function.Distinct name (Some v) w x = lists.distinct v
answer function.First name (Some v) w x = lists.first v
answer function.Flatten name (Some v) w x = lists.flatten v w
answer function.IsSorted name (Some v) w x = orders.is_sorted v
answer function.Last name (Some v) w x = lists.last v
answer function.Max name (Some v) w x = orders.max v
answer function.Min name (Some v) w x = orders.min v
answer function.Range name (Some v) w x = lists.range v
answer function.Slice name (Some v) (Some w) (Some x) = lists.slice v w x
answer function.Sort name (Some v) w x = orders.sort v
answer function.Sum name (Some v) w x = sums.sum v
answer f name None w x = Err (no_overload name)
answer f name v None x = Err (no_overload name)
answer f name v w None = Err (no_overload name)
