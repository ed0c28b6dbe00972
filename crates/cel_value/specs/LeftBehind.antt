-- Trusted by the clauses of other library calls.
-- The entries that are left behind those of a vector.
use Rattle.std.specs.Prelude.{List, []}
use Rattle.cel_value.specs.Listed.{Entry}
use Rattle.cel_value.specs.declared.value.stored.Behind.{Behind}
use Rattle.cel_value.specs.declared.value.stored.Behind.TheVariants as behind

abbrev pub left_behind : Behind → List Entry
left_behind behind.Nothing = []
left_behind (behind.Tree es) = es
left_behind (behind.Shared es) = es
