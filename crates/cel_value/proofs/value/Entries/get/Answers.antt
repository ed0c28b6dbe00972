use Rattle.std.proofs.Common.{◌++◌, sym, subst}
use Rattle.cel_value.specs.StoredEntries.{AreSorted, tree_entries}
use Rattle.cel_value.proofs.Stored.{stored_behind}
use Rattle.cel_value.proofs.Tails.{sorted_left}
use Rattle.cel_value.proofs.value.Entries.get.Goals as goal

pub find_behind-requires : goal.find_behind-requires
find_behind-requires c =
    let rest = c.self.inside.rest.items in
    let tail = tree_entries c.self.inside.tail in
    subst AreSorted (sym c.as_slice.ensures.value)
    (sorted_left rest tail (stored_behind c.self.inside.first c.in-Some.entry (rest ++ tail) c.in-Some.is c.self.invariant.0))
