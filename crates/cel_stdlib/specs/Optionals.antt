-- Trusted by the headline.
-- Whether an optional holds a value, and that value (documentation of
-- CEL-Go, "Optional types", `hasValue`, `value`).
use Rattle.std.specs.Prelude.{codes, is_some, Ok, Err}
use Rattle.std.specs.Option.{option_map_or}
use Rattle.cel_value.specs.Data.{Data, bool, optional, Items}
use Rattle.cel_value.specs.Faults.{no_overload, function_error}
use Rattle.cel_value.specs.Find.{first_item}
use Rattle.cel_semantics.specs.Outcome.{Outcome}

abbrev pub has_value : Data → Outcome
has_value (optional ds) = Ok (bool (is_some (first_item ds)))
has_value _ = Err (no_overload (codes "hasValue"))

-- the value held, or an error if there is none
abbrev pub value_held : Items → Outcome
value_held ds =
    option_map_or Ok (first_item ds) (Err (function_error (codes "value") (codes "optional has no value")))

abbrev pub value_of : Data → Outcome
value_of (optional ds) = value_held ds
value_of _ = Err (no_overload (codes "value"))
