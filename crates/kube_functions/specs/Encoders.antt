-- Trusted by the headline.
-- The answers of the functions of the encoders library (documentation of CEL-Go,
-- "Encoders") and of `jsonpatch.escapeKey` (`k8s.io/apiserver/pkg/cel/library`).
use Rattle.std.specs.Prelude.{ℕ, List, Option, Some, None, Err}
use Rattle.cel_value.specs.Data.{Data}
use Rattle.cel_value.specs.Faults.{no_overload}
use Rattle.cel_semantics.specs.Outcome.{Outcome}
use Rattle.kube_functions_strings.specs.Encoders as encoders
use Rattle.kube_functions_strings.specs.Escapes as escapes
use Rattle.kube_functions.specs.declared.libraries.encoders.EncodersFunction.{EncodersFunction}
use Rattle.kube_functions.specs.declared.libraries.encoders.EncodersFunction.TheVariants as function

-- the answer to a call with these operands, the receiver
-- first; `name` is the function's name in errors
abbrev pub answer : EncodersFunction → List ℕ → Option Data → Outcome
answer function.Decode name (Some v) = encoders.base64_decode v
answer function.Encode name (Some v) = encoders.base64_encode v
answer function.EscapeKey name (Some v) = escapes.escaped_key v
answer f name None = Err (no_overload name)
