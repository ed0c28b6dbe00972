use Rattle.std.proofs.Common.{◌++◌, subst}
use Rattle.cel_value.specs.StoredEntries.{AreSorted, tree_entries}
use Rattle.cel_value.proofs.Stored.{sorted_stored}
use Rattle.cel_value.proofs.value.Entries.iter.Goals as goal

pub returns-clause-ordered : goal.returns-clause-ordered
returns-clause-ordered c = subst (λ m. AreSorted m.entries) c.self.view_is (sorted_stored c.self.inside.first (c.self.inside.rest.items ++ tree_entries c.self.inside.tail) c.self.invariant.0)
