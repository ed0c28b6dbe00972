-- Trusted by the headline.
-- The list of errors in a `ValidationErrors`, and when two lists are equal.
use Rattle.kube_cel_walk.specs.declared.error.ValidationError.{ValidationError}
use Rattle.kube_cel_walk.specs.declared.error.ValidationErrors.{ValidationErrors}
use Rattle.kube_cel_walk.specs.Errors.{ErrorData, SameFields}
use Rattle.std.specs.Prelude.{List, [], ◌∷◌}

abbrev pub errors_in : ValidationErrors → List ValidationError
errors_in e = e.errors.items

-- equally many errors, with the same fields at each index
abbrev pub SameErrors : List ErrorData → List ErrorData → Type 0
SameErrors [] [] = Unit {0}
SameErrors [] (f ∷ fs) = ⊥
SameErrors (e ∷ es) [] = ⊥
SameErrors (e ∷ es) (f ∷ fs) = SameFields e f × SameErrors es fs
