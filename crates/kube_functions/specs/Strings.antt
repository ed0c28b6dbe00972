-- Trusted by the headline.
-- The answers of the functions on strings (documentation of CEL-Go,
-- "Strings"). `indexOf`, `lastIndexOf` and `reverse` also take lists.
use Rattle.std.specs.Prelude.{ℕ, List, Option, Some, None, Err}
use Rattle.cel_value.specs.Data.{Data}
use Rattle.cel_value.specs.Faults.{no_overload}
use Rattle.cel_semantics.specs.Outcome.{Outcome}
use Rattle.kube_functions_format.specs.Formatted as formatted
use Rattle.kube_functions_strings.specs.Escapes as escapes
use Rattle.kube_functions_strings.specs.Joins as joins
use Rattle.kube_functions_strings.specs.Letters as letters
use Rattle.kube_functions_strings.specs.Offsets as offsets
use Rattle.kube_functions_strings.specs.Pieces as pieces
use Rattle.kube_functions.specs.Overloads as overloads
use Rattle.kube_functions.specs.declared.libraries.strings.StringsFunction.{StringsFunction}
use Rattle.kube_functions.specs.declared.libraries.strings.StringsFunction.TheVariants as function

-- the answer to a call with these operands, the receiver
-- first; `name` is the function's name in errors
abbrev pub answer : StringsFunction → List ℕ → Option Data → Option Data → Option Data → Option Data → Outcome
answer function.CharAt name (Some v) (Some w) x y = offsets.char_at v w
answer function.Format name (Some v) (Some w) x y = formatted.format_of v w
answer function.IndexOf name (Some v) (Some w) x y = overloads.index_of v w x
answer function.Join name (Some v) w x y = joins.join v w
answer function.LastIndexOf name (Some v) (Some w) x y = overloads.last_index_of v w x
answer function.LowerAscii name (Some v) w x y = letters.lower_ascii v
answer function.Quote name (Some v) w x y = escapes.quote v
answer function.Replace name (Some v) (Some w) (Some x) y = pieces.replace_outcome v w x y
answer function.Reverse name (Some v) w x y = overloads.reverse_overload v
answer function.Split name (Some v) (Some w) x y = pieces.split_outcome v w x
answer function.Substring name (Some v) (Some w) x y = offsets.substring v w x
answer function.Trim name (Some v) w x y = letters.trim_outcome v
answer function.UpperAscii name (Some v) w x y = letters.upper_ascii v
answer f name None w x y = Err (no_overload name)
answer f name v None x y = Err (no_overload name)
answer f name v w None y = Err (no_overload name)
