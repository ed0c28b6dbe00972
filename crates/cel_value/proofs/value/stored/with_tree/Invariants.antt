use Rattle.std.proofs.Common.{◌≡◌, ◌||◌, max}
use Rattle.cel_value.specs.Levels.{entries_levels}
use Rattle.cel_value.specs.Same.{entries_have_double}
use Rattle.cel_value.specs.StoredEntries.{tree_entries}
use Rattle.cel_value.specs.View.{entries_view}
use Rattle.cel_value.proofs.value.stored.with_tree.Given as goal

abbrev pub invariant-loop-key : goal.invariant-loop-key
invariant-loop-key l =
    let rest = entries_view l._key-iterator in
    ((l.so_far.0 || entries_have_double rest) ≡ (l.fn.before.0 || entries_have_double (entries_view (tree_entries l.fn.tail))))
    × (max l.so_far.1 (entries_levels rest) ≡ max l.fn.before.1 (entries_levels (entries_view (tree_entries l.fn.tail))))
