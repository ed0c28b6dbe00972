-- Trusted by the headline.
-- The answers of the functions on versions (`k8s.io/apiserver/pkg/cel/library`,
-- semver library). Those that compare versions are in `Quantity.antt`.
use Rattle.std.specs.Prelude.{ℕ, List, Option, Some, None, Err}
use Rattle.cel_value.specs.Data.{Data}
use Rattle.cel_value.specs.Faults.{no_overload}
use Rattle.cel_semantics.specs.Outcome.{Outcome}
use Rattle.kube_functions_types.specs.Semver as versions
use Rattle.kube_functions.specs.declared.libraries.semver.SemverFunction.{SemverFunction}
use Rattle.kube_functions.specs.declared.libraries.semver.SemverFunction.TheVariants as function

-- the answer to a call with these operands, the receiver
-- first; `name` is the function's name in errors
abbrev pub answer : SemverFunction → List ℕ → Option Data → Option Data → Outcome
answer function.Semver name (Some v) w = versions.version_from v w
answer function.IsSemver name (Some v) w = versions.is_version v w
answer function.Major name (Some v) w = versions.major_of v
answer function.Minor name (Some v) w = versions.minor_of v
answer function.Patch name (Some v) w = versions.patch_of v
answer f name None w = Err (no_overload name)
