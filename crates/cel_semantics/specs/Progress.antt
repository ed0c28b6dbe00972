-- Scaffolding: only proofs and private clauses cite it.
-- Whether the operands seen so far decide.
use Rattle.std.specs.Prelude.{◌≡◌, ℕ, List, Bool, true, false, Option, option_map}
use Rattle.std.specs.Option.{option_or}
use Rattle.std.specs.List.{list_any}
use Rattle.cel_value.specs.Faults.{Fault, fault_view}
use Rattle.cel_semantics.specs.Decisions.{is_bool, bool_fault, first_fault}
use Rattle.cel_semantics.specs.Outcome.{Outcome}
use Rattle.cel_semantics.specs.declared.operators.Progress.{Progress}
use Rattle.cel_semantics.specs.declared.operators.Progress.TheVariants.{Decided, Open}

-- the operand decides; otherwise f is the first error so far
abbrev pub Absorbs : Bool → List ℕ → Option Fault → Outcome → Progress → Type 0
Absorbs stop name k r Decided = is_bool stop r ≡ true
Absorbs stop name k r (Open f) =
    (is_bool stop r ≡ false) × (option_map fault_view f ≡ option_or k (bool_fault name r))

-- none of these outcomes decides, and the first error among them is k
pub record Undecided (stop : Bool) (name : List ℕ) (k : Option Fault) (rs : List Outcome) : Type 0 where
  pub none : list_any (is_bool stop) rs ≡ false
  pub first : k ≡ first_fault name rs
