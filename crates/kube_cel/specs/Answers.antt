-- Trusted by the headline.
-- The answer of a validation.
use Rattle.cel.specs.Book.{Book, IsBook}
use Rattle.kube_cel_walk.specs.declared.error.ValidationErrors.{ValidationErrors}
use Rattle.kube_cel_walk.specs.ErrorLists.{errors_in}
use Rattle.kube_cel_walk.specs.Errors.{ErrorData, error_view}
use Rattle.kube_schema.specs.Visit.{Visit}
use Rattle.kube_cel_walk.specs.Answers.{answer, IsAnswer}
use Rattle.kube_cel_walk.specs.WalkAccessors.{WalkAccessors}
use Rattle.std.specs.Prelude.{◌≡◌, List, [], ◌∷◌, map, Result, Ok, Err}

-- the report of a list of errors: `Ok` exactly if the list is empty, else all of them
abbrev pub report_of : List ErrorData → Result (Unit {0}) (List ErrorData)
report_of [] = Ok tt
report_of (e ∷ es) = Err (e ∷ es)

-- the result of a call, with its errors as plain data
abbrev pub answer_view : Result (Unit {0}) ValidationErrors → Result (Unit {0}) (List ErrorData)
answer_view (Ok u) = Ok u
answer_view (Err e) = Err (map error_view (errors_in e))

-- the errors that a result reports
abbrev pub found_in : Result (Unit {0}) ValidationErrors → List ErrorData
found_in (Ok u) = []
found_in (Err e) = map error_view (errors_in e)

-- the result of a call with a book of its own: under some book it reports the errors found from
-- the root on. These are both the computed ones and exactly the errors at the places, in order
abbrev pub IsReportOf : {S : Type 0} → WalkAccessors S → Visit S → Result (Unit {0}) ValidationErrors → Type 0
IsReportOf form root r =
    (b : Book) × IsBook b × (answer_view r ≡ report_of (answer form b 65 root))
    × IsAnswer form b root (found_in r)
