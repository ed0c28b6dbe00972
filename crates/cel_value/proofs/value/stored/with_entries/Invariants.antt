use Rattle.std.proofs.Common.{◌≡◌, ◌||◌, max, drop}
use Rattle.cel_value.specs.Levels.{entries_levels}
use Rattle.cel_value.specs.Same.{entries_have_double}
use Rattle.cel_value.specs.View.{entries_view}
use Rattle.cel_value.proofs.value.stored.with_entries.Given as goal

abbrev pub invariant-loop-entry : goal.invariant-loop-entry
invariant-loop-entry l =
    let rest = entries_view (drop l.entry-index l.entries) in
    ((l.so_far.0 || entries_have_double rest) ≡ (l.fn.before.0 || entries_have_double (entries_view l.entries)))
    × (max l.so_far.1 (entries_levels rest) ≡ max l.fn.before.1 (entries_levels (entries_view l.entries)))
