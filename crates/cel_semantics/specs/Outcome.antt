-- Trusted by the headline.
-- The outcome of an evaluation: a value, or an error (CEL language definition, "Evaluation").
use Rattle.std.specs.Prelude.{List, [], ◌∷◌, codes, Result, Ok, Err}
use Rattle.cel_value.specs.Data.{Data}
use Rattle.cel_value.specs.Faults.{Fault, undeclared, fault_view}
use Rattle.cel_value.specs.View.{view}
use Rattle.cel_value.specs.declared.error.ExecutionError.{ExecutionError}
use Rattle.cel_value.specs.declared.value.Value.{Value}

abbrev pub Outcome : Type 0
Outcome = Result Data Fault

abbrev pub outcome_view : Result Value ExecutionError → Outcome
outcome_view (Ok v) = Ok (view v)
outcome_view (Err e) = Err (fault_view e)

-- applies a function to the value of an outcome; an error stays
abbrev pub and_then : {A B : Type 0} → Result A Fault → (A → Result B Fault) → Result B Fault
and_then (Ok v) f = f v
and_then (Err e) f = Err e

-- all the values, or the first error from the left
abbrev pub all_values : List Outcome → Result (List Data) Fault
all_values [] = Ok []
all_values (r ∷ rs) = and_then r (λ v. and_then (all_values rs) (λ vs. Ok (v ∷ vs)))

-- the error of an operator or a function that is given a double
abbrev pub no_doubles : Fault
no_doubles = undeclared (codes "double")
