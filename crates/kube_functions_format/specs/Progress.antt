-- Scaffolding: only proofs and private clauses cite it.
-- Reading a format string from a given character on.
use Rattle.std.specs.Prelude.{ℕ, List, [], ◌∷◌, String, string_bytes, Option, Some, None, Result, Ok, Err}
use Rattle.std.specs.declared.alloc.Global.{Global}
use Rattle.cel_value.specs.Data.{Data}
use Rattle.cel_value.specs.Faults.{Fault, fault_view}
use Rattle.cel_value.specs.declared.error.ExecutionError.{ExecutionError}
use Rattle.kube_functions_format.specs.Formatted.{before, text_of_pieces}
use Rattle.kube_functions_format.specs.Pieces.{Piece, literal, verb, broken, no_precision, pieces, behind_percent, behind_digits}
use Rattle.kube_functions_format.specs.Verbs.{Shown}
use Rattle.kube_functions_format.specs.declared.reading.Mark.{Mark}
use Rattle.kube_functions_format.specs.declared.reading.Mark.TheVariants as mark
use Rattle.kube_functions_format.specs.declared.reading.Step.{Step}
use Rattle.kube_functions_format.specs.declared.reading.Step.TheVariants as step

-- the pieces of the remaining characters, after a part of a verb
abbrev pub pieces_behind : Mark → List ℕ → List Piece
pieces_behind mark.Outside cs = pieces cs
pieces_behind mark.Percent cs = behind_percent cs
pieces_behind (mark.Precision n) cs = behind_digits n cs

-- the pieces of the remaining characters, after the step made by the last one
abbrev pub read_on : Step → List ℕ → List Piece
read_on (step.Literal c) cs = literal c ∷ pieces cs
read_on (step.Verb c) cs = verb c ∷ pieces cs
read_on (step.More m) cs = pieces_behind m cs
read_on step.Invalid cs = no_precision ∷ []

-- the pieces at the end of the format string
abbrev pub pieces_at_end : Option (List ℕ) → List Piece
pieces_at_end None = []
pieces_at_end (Some message) = broken message ∷ []

-- the result if the characters `cs` are still to be read, given the text written so far, the number
-- of items used, and the part of a verb read last
abbrev pub written_on : List Data → List ℕ → ℕ → Mark → List ℕ → Shown
written_on items done k m cs = before done (text_of_pieces items k (pieces_behind m cs))

-- the error, or else the result of what is still to be read
abbrev pub unless_fault : Option Fault → Shown → Shown
unless_fault None r = r
unless_fault (Some e) r = Err e

abbrev pub shown_view : Result (String Global) ExecutionError → Shown
shown_view (Ok s) = Ok (string_bytes s)
shown_view (Err e) = Err (fault_view e)
