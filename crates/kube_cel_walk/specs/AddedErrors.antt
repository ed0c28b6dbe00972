-- Scaffolding: only proofs and private clauses cite it.
-- The errors that a part of the walk adds, under every book that extends the one it leaves behind.
use Rattle.cel.specs.Book.{Extends, Book}
use Rattle.cel.specs.Outcome.{Outcome}
use Rattle.cel_value.specs.Parts.{bool_in}
use Rattle.kube_cel_walk.specs.declared.error.ValidationError.{ValidationError}
use Rattle.kube_cel_walk.specs.Errors.{ErrorData, error_view}
use Rattle.std.specs.Prelude.{◌≡◌, ◌++◌, List, map, Bool, false, unwrap_or, Ok, Err}

-- the errors added behind those there before
abbrev pub AreAdded : Book → List ValidationError → List ValidationError → (Book → List ErrorData) → Type 0
AreAdded known before after added =
    (b : Book) → Extends b known → map error_view after ≡ map error_view before ++ added b

-- the outcome is true
abbrev pub is_true : Outcome → Bool
is_true (Ok v) = unwrap_or (bool_in v) false
is_true (Err e) = false
