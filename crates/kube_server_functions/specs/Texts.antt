-- Trusted by the clauses of other library calls.
-- The functions of strings that an API server answers in another way than `kube_functions`: `split` with
-- an empty separator (documentation of Go, "strings", `Split`: one string for each character; not with
-- a limit), `quantity` and `isQuantity` of a text with blanks at an end
-- (`k8s.io/apimachinery/pkg/api/resource`, `ParseQuantity`: it has no blanks), `format.named`
-- (Kubernetes documentation, "CEL in Kubernetes", format library: an optional).
use Rattle.std.specs.Prelude.{ℕ, List, [], map, codes, encode_utf8, Bool, false, not, Option, Some, None, option_map, Ok, Err, if◌then◌else◌}
use Rattle.std.specs.Str.{bytes_eq, chars, trim}
use Rattle.cel_value.specs.Data.{Data, bool, text, list, optional, format}
use Rattle.cel_value.specs.Faults.{Fault, undeclared, function_error}
use Rattle.cel_value.specs.Find.{option_items}
use Rattle.cel_value.specs.View.{items_of}
use Rattle.cel_semantics.specs.Outcome.{Outcome}
use Rattle.kube_functions.specs.NamedFormat.{kind_named}

-- ---- split

-- each character as a string
abbrev pub letters : List ℕ → List Data
letters cs = map (λ c. text (encode_utf8 c)) cs

abbrev pub split_letters : List ℕ → Outcome
split_letters s = Ok (list (items_of (letters (chars s))))

-- the error of what isn't answered
abbrev pub split_limit : Fault
split_limit = undeclared (codes "split by an empty separator with a limit")

-- the answer to a split by an empty separator, perhaps with a limit
abbrev pub split_by_nothing : List ℕ → Option Data → Outcome
split_by_nothing s None = split_letters s
split_by_nothing s (Some limit) = Err split_limit

-- ---- quantities

abbrev pub has_blanks : List ℕ → Bool
has_blanks s = not (bytes_eq (trim s) s)

-- the answer for a text with blanks at an end
abbrev pub unless_plain : Outcome → List ℕ → Option Outcome
unless_plain answer s = if has_blanks s then Some answer else None

abbrev pub no_quantity : Outcome
no_quantity = Err (function_error (codes "quantity") (codes "invalid quantity"))

-- ---- formats

abbrev pub format_named : List ℕ → Outcome
format_named s = Ok (optional (option_items (option_map format (kind_named s))))

-- ---- functions of a string

abbrev pub changed_for_text : List ℕ → List ℕ → Option Outcome
changed_for_text name s =
    if bytes_eq name (codes "quantity") then unless_plain no_quantity s
    else (if bytes_eq name (codes "isQuantity") then unless_plain (Ok (bool false)) s
    else (if bytes_eq name (codes "format.named") then Some (format_named s) else None))
