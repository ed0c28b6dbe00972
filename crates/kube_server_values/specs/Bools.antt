-- Trusted by the clauses of other library calls.
-- `bool` of strings and `string` of bools (CEL language definition, "List of Standard Definitions",
-- `bool`, `string`). The texts are those of Go (documentation of "strconv", `ParseBool`).
use Rattle.std.specs.Prelude.{ℕ, List, [], ◌∷◌, codes, Bool, true, false, Option, Some, None, Ok, Err}
use Rattle.std.specs.Map.{lookup}
use Rattle.std.specs.Option.{option_map_or}
use Rattle.std.specs.Str.{bytes_eq}
use Rattle.cel_value.specs.Data.{Data, bool, text}
use Rattle.cel_value.specs.Faults.{no_overload, function_error}
use Rattle.cel_value.specs.Texts.{bool_text}
use Rattle.cel_semantics.specs.Outcome.{Outcome}

-- the bool that a text denotes
abbrev pub bool_in_text : List ℕ → Option Bool
bool_in_text s = lookup (bytes_eq s) (
    (codes "1", true)
    ∷ (codes "t", true)
    ∷ (codes "T", true)
    ∷ (codes "TRUE", true)
    ∷ (codes "true", true)
    ∷ (codes "True", true)
    ∷ (codes "0", false)
    ∷ (codes "f", false)
    ∷ (codes "F", false)
    ∷ (codes "FALSE", false)
    ∷ (codes "false", false)
    ∷ (codes "False", false)
    ∷ [])

abbrev pub bool_of : Data → Outcome
bool_of (bool b) = Ok (bool b)
bool_of (text s) = option_map_or (λ b. Ok (bool b)) (bool_in_text s)
    (Err (function_error (codes "bool") (codes "invalid bool text")))
bool_of _ = Err (no_overload (codes "bool"))

abbrev pub string_of_bool : Bool → Data
string_of_bool b = text (bool_text b)
