use Rattle.std.proofs.Common.{◌≡◌, if◌then◌else◌, true, max, drop}
use Rattle.cel_value.specs.Levels.{items_levels}
use Rattle.cel_value.specs.Same.{items_have_double}
use Rattle.cel_value.specs.View.{items_view}
use Rattle.cel_value.proofs.value.List.of.Given as goal

abbrev pub invariant-loop-item : goal.invariant-loop-item
invariant-loop-item l =
    let rest = items_view (drop l.item-index l.item-items) in
    ((if l.doubles then true else items_have_double rest) ≡ items_have_double (items_view l.item-items))
    × (max l.inner (items_levels rest) ≡ items_levels (items_view l.item-items))
