use Rattle.std.proofs.Common.{◌≡◌, ◌||◌, max, drop}
use Rattle.cel_value.specs.Levels.{items_levels}
use Rattle.cel_value.specs.Same.{items_have_double}
use Rattle.cel_value.specs.View.{items_view}
use Rattle.cel_value.proofs.value.shared.all_joined.Given as goal

abbrev pub invariant-loop-value : goal.invariant-loop-value
invariant-loop-value l =
    let rest = items_view (drop l.value-index l.values) in
    ((l.so_far.0 || items_have_double rest) ≡ items_have_double (items_view l.values))
    × (max l.so_far.1 (items_levels rest) ≡ items_levels (items_view l.values))
