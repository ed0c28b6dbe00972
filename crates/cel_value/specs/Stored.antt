-- Trusted by the clauses of other library calls.
-- The bytes of a text, wherever they are stored.
use Rattle.std.specs.Prelude.{ℕ, List, string_bytes}
use Rattle.cel_value.specs.declared.string.Stored.{Stored}
use Rattle.cel_value.specs.declared.string.Stored.TheVariants.{Short, Long}

abbrev pub stored_bytes : Stored → List ℕ
stored_bytes (Short s) = s
stored_bytes (Long s) = string_bytes s.value
