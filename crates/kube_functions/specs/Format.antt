-- Trusted by the headline.
-- The answers of the functions on named formats (Kubernetes
-- documentation, "CEL in Kubernetes", format library).
use Rattle.std.specs.Prelude.{ℕ, List, Option, Some, None, Ok, Err}
use Rattle.cel_value.specs.Data as plain
use Rattle.cel_value.specs.Data.{Data}
use Rattle.cel_value.specs.Faults.{no_overload}
use Rattle.cel_semantics.specs.Outcome.{Outcome}
use Rattle.kube_functions_types.specs.NamedFormat as formats
use Rattle.kube_functions.specs.declared.libraries.format.FormatFunction.{FormatFunction}
use Rattle.kube_functions.specs.declared.libraries.format.FormatFunction.TheVariants as function

-- the answer to a call with these operands, the receiver
-- first; `name` is the function's name in errors
abbrev pub answer : FormatFunction → List ℕ → Option Data → Option Data → Outcome
answer (function.Kind kind) name v w = Ok (plain.format kind)
answer function.Named name (Some v) w = formats.named_format v
answer function.Validate name (Some v) (Some w) = formats.validate v w
answer f name None w = Err (no_overload name)
answer f name v None = Err (no_overload name)
