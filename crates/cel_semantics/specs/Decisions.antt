-- Trusted by the headline.
-- Outcomes that should be bools (CEL language definition, "Logical Operators", "Macros").
use Rattle.std.specs.Prelude.{ℕ, List, [], ◌∷◌, Bool, true, false, not, Option, Some, None, Result, Ok, Err, if◌then◌else◌}
use Rattle.std.specs.List.{list_any}
use Rattle.std.specs.Option.{option_map_or, option_or}
use Rattle.cel_value.specs.Data.{bool}
use Rattle.cel_value.specs.Faults.{Fault, no_overload}
use Rattle.cel_semantics.specs.Outcome.{Outcome}

-- whether an outcome is the bool b
abbrev pub is_bool : Bool → Outcome → Bool
is_bool true (Ok (bool b)) = b
is_bool false (Ok (bool b)) = not b
is_bool b _ = false

-- the bool of an outcome, or its error, or that `name` has no overload for its value
abbrev pub truth : List ℕ → Outcome → Result Bool Fault
truth name (Ok (bool b)) = Ok b
truth name (Ok _) = Err (no_overload name)
truth name (Err e) = Err e

abbrev pub fault_in : {A : Type 0} → Result A Fault → Option Fault
fault_in (Ok b) = None
fault_in (Err e) = Some e

-- the error of an operand that isn't a bool
abbrev pub bool_fault : List ℕ → Outcome → Option Fault
bool_fault name r = fault_in (truth name r)

-- the first such error
abbrev pub first_fault : List ℕ → List Outcome → Option Fault
first_fault name [] = None
first_fault name (r ∷ rs) = option_or (bool_fault name r) (first_fault name rs)

-- If any operand is b, the outcome is b. Otherwise it is the error of the first operand that isn't
-- a bool: its own, or that `name` has no overload for it. Otherwise it is the other bool.
abbrev pub decision : Bool → List ℕ → List Outcome → Outcome
decision b name rs =
    if list_any (is_bool b) rs then Ok (bool b)
    else option_map_or Err (first_fault name rs) (Ok (bool (not b)))

-- the outcome of the branch that a condition selects
abbrev pub branch_outcome : Result Bool Fault → Outcome → Outcome → Outcome
branch_outcome (Ok b) r s = if b then r else s
branch_outcome (Err e) r s = Err e
