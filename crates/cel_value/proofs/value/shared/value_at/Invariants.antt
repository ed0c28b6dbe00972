use Rattle.std.proofs.Common.{◌≡◌, drop}
use Rattle.std.specs.Prelude.{zip}
use Rattle.std.specs.BTreeMap.{is_at}
use Rattle.std.specs.Map.{lookup}
use Rattle.cel_value.specs.Keys.{key_cmp}
use Rattle.cel_value.proofs.value.shared.value_at.Given as goal

abbrev pub invariant-loop-index : goal.invariant-loop-index
invariant-loop-index l =
    lookup (is_at (key_cmp l.key)) (zip l.keys l.values)
    ≡ lookup (is_at (key_cmp l.key)) (zip (drop l.index l.keys) (drop l.index l.values))
