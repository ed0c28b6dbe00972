-- Trusted by the clauses of other library calls.
-- Texts that begin with a given text.
use Rattle.std.specs.Prelude.{ℕ, Bool, false, List, ◌++◌, length, take, drop, flat_map, codes, bytes_eq, ◌==◌, Option, Some, None, Result, Ok, Err, if◌then◌else◌}
use Rattle.std.specs.Borrow.{Bor}
use Rattle.std.specs.Net.Text.{hex}

-- the text after `front`, or none if it doesn't start with that
unfoldable pub rest_after : List ℕ → List ℕ → Option (List ℕ)
rest_after front text =
    if bytes_eq (take (length front) text) front then Some (drop (length front) text) else None

-- groups in hex, with a colon before each
unfoldable pub more_text : List ℕ → List ℕ
more_text groups = flat_map (λ g. codes ":" ++ hex g) groups

-- the text matched, and nothing is left of it
abbrev pub is_whole : Option (List ℕ) → Bool
is_whole None = false
is_whole (Some rest) = length rest == 0

-- the view of a result: the bool, or the error's text
abbrev pub test_answer : Result Bool (Bor (List ℕ)) → Result Bool (List ℕ)
test_answer (Ok b) = Ok b
test_answer (Err text) = Err text.now
