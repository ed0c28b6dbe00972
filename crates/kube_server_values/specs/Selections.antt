-- Trusted by the clauses of other library calls.
-- Optional selections and indices (documentation of CEL-Go, `cel.OptionalTypes`, "Field Selection",
-- "Indexing"): an optional of what the selection or the index finds, and one without a value where
-- it finds no such key, or is past a list's end. One on an optional goes through it, and finds
-- nothing in one without a value. CEL-Go's names of these operators are `_?._` and `_[?_]`.
use Rattle.std.specs.Prelude.{codes, Ok, Err}
use Rattle.cel_value.specs.Data.{text_key, Data, text, optional, Items, no_items, item}
use Rattle.cel_value.specs.Faults.{no_key, no_overload, out_of_bounds, unsupported_key}
use Rattle.cel_semantics.specs.Members.{selection, index_outcome}
use Rattle.cel_semantics.specs.Outcome.{Outcome}
use Rattle.kube_server_values.specs.Limits.{member_limit, key_limit}
use Rattle.kube_server_values.specs.Optionals.{some_of, none_of_all}

-- what a selection or an index found, as an optional
abbrev pub optionally : Outcome → Outcome
optionally (Ok v) = Ok (some_of v)
optionally (Err (no_key k)) = Ok none_of_all
optionally (Err out_of_bounds) = Ok none_of_all
optionally (Err (no_overload name)) = Err member_limit
optionally (Err unsupported_key) = Err key_limit
optionally (Err e) = Err e

-- ---- through an optional

-- what a function finds in the value that an optional holds
abbrev pub in_held : (Data → Outcome) → Items → Outcome
in_held f no_items = Ok none_of_all
in_held f (item d ds) = f d

abbrev pub through : (Data → Outcome) → Data → Outcome
through f (optional ds) = in_held f ds
through f v = f v

-- ---- the operators

abbrev pub field_optional : Data → Data → Outcome
field_optional v (text name) = through (λ w. optionally (selection (text_key name) w)) v
field_optional v _ = Err (no_overload (codes "_?._"))

abbrev pub index_optional : Data → Data → Outcome
index_optional v i = through (λ w. optionally (index_outcome w i)) v
