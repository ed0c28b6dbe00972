-- Trusted by the clauses of other library calls.
-- How errors are printed.
use Rattle.kube_cel_walk.specs.declared.error.ValidationError.{ValidationError}
use Rattle.kube_cel_walk.specs.Errors.{ErrorData, error_view}
use Rattle.std.specs.List.{flat_map}
use Rattle.std.specs.Prelude.{ℕ, List, [], ◌∷◌, ◌++◌, length, codes, decimal}

-- the message, behind its path unless the path is empty
abbrev pub text_at : List ℕ → List ℕ → List ℕ
text_at [] message = message
text_at (b ∷ bs) message = (b ∷ bs) ++ (codes ": " ++ message)

abbrev pub error_text : ErrorData → List ℕ
error_text e = text_at e.field_path e.message

-- an error on its own line
abbrev pub line_text : ErrorData → List ℕ
line_text e = codes "\n  - " ++ error_text e

abbrev pub line_of : ValidationError → List ℕ
line_of e = line_text (error_view e)

-- the number of errors, then each error on its own line
abbrev pub errors_text : List ValidationError → List ℕ
errors_text es = (decimal (length es) ++ codes " validation error(s):") ++ flat_map line_of es
