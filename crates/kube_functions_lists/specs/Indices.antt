-- Trusted by the headline.
-- The index of a value in a list (documentation of CEL-Go, "Lists"; Kubernetes documentation, "CEL
-- in Kubernetes", list library, `indexOf`, `lastIndexOf`). Indices count from 0, and -1 means that
-- the value isn't in the list. An index too large for an int would be an overflow.
use Rattle.std.specs.Prelude.{ℕ, ◌+◌, pos, negsuc, List, [], ◌∷◌, codes, Bool, Option, None, Some, Ok, if◌then◌else◌}
use Rattle.std.specs.List.{position_from}
use Rattle.std.specs.Option.{option_map_or, option_or}
use Rattle.cel_value.specs.Data.{Data, int}
use Rattle.cel_value.specs.Same.{same}
use Rattle.cel_semantics.specs.Arithmetic.{int_or_overflow}
use Rattle.cel_semantics.specs.Outcome.{Outcome}
use Rattle.kube_functions_lists.specs.Lists.{of_list}

-- the last index at which the test passes, with the items numbered from i
abbrev pub last_position_from : (Data → Bool) → ℕ → List Data → Option ℕ
last_position_from t i [] = None
last_position_from t i (d ∷ ds) = option_or (last_position_from t (i + 1) ds) (if t d then Some i else None)

abbrev pub index_or_none : Option ℕ → Outcome
index_or_none o = option_map_or (λ n. int_or_overflow (pos n)) o (Ok (int (negsuc 0)))

abbrev pub index_of : Data → Data → Outcome
index_of v w = of_list (codes "indexOf") (λ ds. index_or_none (position_from (λ d. same d w) 0 ds)) v

abbrev pub last_index_of : Data → Data → Outcome
last_index_of v w =
    of_list (codes "lastIndexOf") (λ ds. index_or_none (last_position_from (λ d. same d w) 0 ds)) v
