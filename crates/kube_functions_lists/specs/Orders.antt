-- Trusted by the headline.
-- Lists in ascending order (Kubernetes documentation, "CEL in
-- Kubernetes", list library, `isSorted`, `min`, `max`; documentation of
-- CEL-Go, "Lists", `sort`). Values are compared as `<` compares them.
use Rattle.std.specs.Prelude.{ℕ, List, [], ◌∷◌, codes, Bool, true, false, not, is_some, Ok, Err, if◌then◌else◌}
use Rattle.std.specs.List.{find}
use Rattle.std.specs.Option.{option_map_or, unwrap_or}
use Rattle.std.specs.Ordering.{is_some_and, is_lt, is_le, nat_cmp}
use Rattle.std.specs.declared.cmp.Ordering.{Ordering}
use Rattle.cel_value.specs.Data.{Data, bool}
use Rattle.cel_value.specs.Same.{shape, class_of, has_order, comparison}
use Rattle.cel_semantics.specs.Outcome.{Outcome}
use Rattle.cel_stdlib.specs.Extremes.{extreme_of, different_types, all_compare}
use Rattle.cel_stdlib.specs.declared.extremes.Extreme.TheVariants.{Least, Greatest}
use Rattle.kube_functions_lists.specs.Lists.{of_list, as_list}

abbrev pub min : Data → Outcome
min v = of_list (codes "min") (extreme_of Least) v

abbrev pub max : Data → Outcome
max v = of_list (codes "max") (extreme_of Greatest) v

-- ---- is a list in order?

-- each item paired with the next one
abbrev pub neighbours : List Data → List (Data × Data)
neighbours [] = []
neighbours (d ∷ []) = []
neighbours (d ∷ e ∷ ds) = (d, e) ∷ neighbours (e ∷ ds)

abbrev pub ascend : Data → Data → Bool
ascend d e = is_some_and is_le (comparison d e)

-- the result for two neighbours that don't ascend: false, or an error if they can't be compared
abbrev pub not_ascending : Data → Data → Outcome
not_ascending d e = if is_some (comparison d e) then Ok (bool false) else Err different_types

-- the first two neighbours that don't ascend decide
abbrev pub order_of : List Data → Outcome
order_of ds = option_map_or (λ p. not_ascending p.0 p.1) (find (λ p. not (ascend p.0 p.1)) (neighbours ds))
    (Ok (bool true))

abbrev pub is_sorted : Data → Outcome
is_sorted v = of_list (codes "isSorted") order_of v

-- ---- sorting

-- the value put into a list, before the first item that doesn't come before it
abbrev pub put_by : {X : Type 0} → (X → X → Bool) → X → List X → List X
put_by before x [] = x ∷ []
put_by before x (y ∷ ys) = if before y x then y ∷ put_by before x ys else x ∷ y ∷ ys

abbrev pub sorted_by : {X : Type 0} → (X → X → Bool) → List X → List X
sorted_by before [] = []
sorted_by before (x ∷ xs) = put_by before x (sorted_by before xs)

abbrev pub comes_first : Data → Data → Bool
comes_first d e = is_some_and is_lt (comparison d e)

-- the items in ascending order; equal items keep their order
abbrev pub ascending : List Data → List Data
ascending ds = sorted_by comes_first ds

-- any two items can be compared, or there is at most one item
abbrev pub have_order : List Data → Bool
have_order [] = true
have_order (d ∷ []) = true
have_order (d ∷ e ∷ ds) = all_compare (d ∷ e ∷ ds)

abbrev pub sort_of_items : List Data → Outcome
sort_of_items ds = if have_order ds then Ok (as_list (ascending ds)) else Err different_types

abbrev pub sort : Data → Outcome
sort v = of_list (codes "sort") sort_of_items v

-- the class of a value that can be ordered, or else 0
abbrev pub class_number : Data → ℕ
class_number d = if has_order d then class_of (shape d) else 0

-- an order of all values: by class, and within a class as values compare
abbrev pub order_of_all : Data → Data → Ordering
order_of_all d e = unwrap_or (comparison d e) (nat_cmp (class_number d) (class_number e))

-- the value comes before another one in that order; within a class this is the lesser one
abbrev pub goes_before : Data → Data → Bool
goes_before d e = is_lt (order_of_all d e)
