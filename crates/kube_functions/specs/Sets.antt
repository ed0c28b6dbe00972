-- Trusted by the headline.
-- The answers of the functions on sets (documentation of CEL-Go, "Sets").
use Rattle.std.specs.Prelude.{ℕ, List, Option, Some, None, Err}
use Rattle.cel_value.specs.Data.{Data}
use Rattle.cel_value.specs.Faults.{no_overload}
use Rattle.cel_semantics.specs.Outcome.{Outcome}
use Rattle.kube_functions_lists.specs.Sets as sets
use Rattle.kube_functions.specs.declared.libraries.sets.SetsFunction.{SetsFunction}
use Rattle.kube_functions.specs.declared.libraries.sets.SetsFunction.TheVariants as function

-- the answer to a call with these operands, the receiver
-- first; `name` is the function's name in errors
abbrev pub answer : SetsFunction → List ℕ → Option Data → Option Data → Outcome
answer function.Contains name (Some v) (Some w) = sets.contains v w
answer function.Equivalent name (Some v) (Some w) = sets.equivalent v w
answer function.Intersects name (Some v) (Some w) = sets.intersects v w
answer f name None w = Err (no_overload name)
answer f name v None = Err (no_overload name)
