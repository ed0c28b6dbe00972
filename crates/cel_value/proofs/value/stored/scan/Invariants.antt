use Rattle.std.proofs.Common.{◌≡◌, drop}
use Rattle.std.specs.BTreeMap.{is_at}
use Rattle.std.specs.Map.{lookup}
use Rattle.cel_value.specs.Keys.{key_cmp}
use Rattle.cel_value.proofs.value.stored.scan.Given as goal

abbrev pub invariant-loop-entry : goal.invariant-loop-entry
invariant-loop-entry l = lookup (is_at (key_cmp l.key)) l.entries ≡ lookup (is_at (key_cmp l.key)) (drop l.entry-index l.entries)
