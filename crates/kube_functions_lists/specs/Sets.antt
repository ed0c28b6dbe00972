-- Trusted by the headline.
-- Lists as sets of their items (documentation of CEL-Go, "Sets": `sets.contains`,
-- `sets.equivalent`, `sets.intersects`). A value is in the set if it equals an item.
use Rattle.std.specs.Prelude.{ℕ, List, codes, Bool, ◌&&◌, Ok, Err}
use Rattle.std.specs.List.{list_any, list_all}
use Rattle.std.specs.Option.{option_map_or}
use Rattle.cel_value.specs.Data.{Data, bool}
use Rattle.cel_value.specs.Faults.{no_overload}
use Rattle.cel_value.specs.Same.{same}
use Rattle.cel_semantics.specs.Outcome.{Outcome}
use Rattle.kube_functions_lists.specs.Lists.{items_if_list}

abbrev pub is_in : List Data → Data → Bool
is_in ds d = list_any (same d) ds

-- every item of the second list is in the first
abbrev pub has_all : List Data → List Data → Bool
has_all ds es = list_all (is_in ds) es

-- each list has all items of the other
abbrev pub have_same : List Data → List Data → Bool
have_same ds es = has_all ds es && has_all es ds

-- some item of the second list is in the first
abbrev pub have_common : List Data → List Data → Bool
have_common ds es = list_any (is_in ds) es

-- the result of a function with this name on the items of two lists; other operands are an error
abbrev pub of_lists : List ℕ → (List Data → List Data → Bool) → Data → Data → Outcome
of_lists name f v w =
    option_map_or (λ ds. option_map_or (λ es. Ok (bool (f ds es))) (items_if_list w) (Err (no_overload name)))
    (items_if_list v) (Err (no_overload name))

abbrev pub contains : Data → Data → Outcome
contains v w = of_lists (codes "sets.contains") has_all v w

abbrev pub equivalent : Data → Data → Outcome
equivalent v w = of_lists (codes "sets.equivalent") have_same v w

abbrev pub intersects : Data → Data → Outcome
intersects v w = of_lists (codes "sets.intersects") have_common v w
