-- Trusted by the headline.
-- The least and the greatest of several values (Kubernetes documentation, "CEL in Kubernetes", list
-- library, `min` and `max`; documentation of CEL-Go, "Lists"). Values are compared as by `<`, and
-- the first of equal ones is taken. A single value is not compared.
use Rattle.std.specs.Prelude.{List, [], ◌∷◌, codes, Bool, not, is_some, Option, Some, None, option_map, Ok, Err, if◌then◌else◌}
use Rattle.std.specs.List.{list_all, find}
use Rattle.std.specs.Option.{option_map_or, unwrap_or}
use Rattle.std.specs.Ordering.{is_some_and, is_lt, is_gt}
use Rattle.std.specs.declared.cmp.Ordering.{Ordering}
use Rattle.cel_value.specs.Data.{Data}
use Rattle.cel_value.specs.Faults.{Fault, function_error}
use Rattle.cel_value.specs.Parts.{items_in}
use Rattle.cel_value.specs.Same.{comparison}
use Rattle.cel_semantics.specs.Outcome.{Outcome}
use Rattle.cel_semantics.specs.Ranges.{items_list}
use Rattle.cel_stdlib.specs.declared.extremes.Extreme.{Extreme}
use Rattle.cel_stdlib.specs.declared.extremes.Extreme.TheVariants.{Least, Greatest}

-- whether a value that compares like this with another one precedes it
abbrev pub goes_before : Extreme → Ordering → Bool
goes_before Least o = is_lt o
goes_before Greatest o = is_gt o

abbrev pub stands_before : Extreme → Data → Data → Bool
stands_before end v w = is_some_and (goes_before end) (comparison v w)

-- the later value if it precedes the earlier one, else
-- the earlier one; None if they can't be compared
abbrev pub better : Extreme → Data → Data → Option Data
better end v w = option_map (λ o. if goes_before end o then w else v) (comparison w v)

-- none of the values precedes this one
abbrev pub is_extreme : Extreme → List Data → Data → Bool
is_extreme end vs v = list_all (λ w. not (stands_before end w v)) vs

-- every two of the values can be compared
abbrev pub all_compare : List Data → Bool
all_compare vs = list_all (λ v. list_all (λ w. is_some (comparison v w)) vs) vs

-- the first value that none precedes, if all can be compared
abbrev pub first_extreme : Extreme → List Data → Option Data
first_extreme end vs = if all_compare vs then find (is_extreme end vs) vs else None

-- the same for a value and those after it; a single value is not compared
abbrev pub least_or_greatest : Extreme → Data → List Data → Option Data
least_or_greatest end v [] = Some v
least_or_greatest end v (w ∷ vs) = first_extreme end (v ∷ w ∷ vs)

abbrev pub different_types : Fault
different_types = function_error (codes "compare") (codes "cannot compare values of different types")

abbrev pub no_items : Extreme → Fault
no_items Least = function_error (codes "min") (codes "cannot call min on empty list")
no_items Greatest = function_error (codes "max") (codes "cannot call max on empty list")

abbrev pub extreme_of : Extreme → List Data → Outcome
extreme_of end [] = Err (no_items end)
extreme_of end (v ∷ vs) = option_map_or Ok (least_or_greatest end v vs) (Err different_types)

-- the arguments, or the items of a list that is the only argument
abbrev pub values_among : List Data → List Data
values_among [] = []
values_among (v ∷ []) = unwrap_or (option_map items_list (items_in v)) (v ∷ [])
values_among (v ∷ w ∷ vs) = v ∷ w ∷ vs
