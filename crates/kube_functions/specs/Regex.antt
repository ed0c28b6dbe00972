-- Trusted by the headline.
-- The answers of the functions on patterns, under a book
-- (Kubernetes documentation, "CEL in Kubernetes", regex library).
use Rattle.std.specs.Prelude.{ℕ, List, Option, Some, None, Err}
use Rattle.cel_patterns.specs.Book.{Book}
use Rattle.cel_value.specs.Data.{Data}
use Rattle.cel_value.specs.Faults.{no_overload}
use Rattle.cel_semantics.specs.Outcome.{Outcome}
use Rattle.kube_functions_strings.specs.Regex as regex
use Rattle.kube_functions.specs.declared.libraries.regex.RegexFunction.{RegexFunction}
use Rattle.kube_functions.specs.declared.libraries.regex.RegexFunction.TheVariants as function

-- the answer to a call with these operands, the receiver
-- first; `name` is the function's name in errors
abbrev pub answer : RegexFunction → List ℕ → Option Data → Option Data → Option Data → Book → Outcome
answer function.Find name (Some v) (Some w) x book = regex.find_outcome v w book
answer function.FindAll name (Some v) (Some w) x book = regex.find_all_outcome v w x book
answer f name None w x book = Err (no_overload name)
answer f name v None x book = Err (no_overload name)
