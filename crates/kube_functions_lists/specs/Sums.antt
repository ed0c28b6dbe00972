-- Trusted by the headline.
-- Sums of lists (Kubernetes documentation, "CEL in Kubernetes", list
-- library, `sum`). The items are added from the left: ints to ints, uints
-- to uints. The sum of a single item is the item itself, of whatever kind.
use Rattle.std.specs.Prelude.{◌+◌, pos, ◌+ℤ◌, List, [], ◌∷◌, codes, Ok, Err}
use Rattle.cel_value.specs.Data.{Data, int, uint}
use Rattle.cel_value.specs.Faults.{Fault, function_error}
use Rattle.cel_semantics.specs.Arithmetic.{int_or_overflow, uint_or_overflow}
use Rattle.cel_semantics.specs.Outcome.{Outcome, and_then}
use Rattle.kube_functions_lists.specs.Lists.{of_list}

abbrev pub no_sum : Fault
no_sum = function_error (codes "sum") (codes "cannot sum values of this type")

abbrev pub sum_of_two : Data → Data → Outcome
sum_of_two (int m) (int n) = int_or_overflow (m +ℤ n)
sum_of_two (uint m) (uint n) = uint_or_overflow (m + n)
sum_of_two _ _ = Err no_sum

-- the values added to s one by one, or the first error from the left
abbrev pub sum_from : Data → List Data → Outcome
sum_from s [] = Ok s
sum_from s (d ∷ ds) = and_then (sum_of_two s d) (λ t. sum_from t ds)

abbrev pub sum_of_items : List Data → Outcome
sum_of_items [] = Ok (int (pos 0))
sum_of_items (d ∷ ds) = sum_from d ds

abbrev pub sum : Data → Outcome
sum v = of_list (codes "sum") sum_of_items v
