use Rattle.std.proofs.Common.{subst}
use Rattle.std.specs.List.Sorted.{IsStrictlySortedBy}
use Rattle.std.specs.Map.{keys_of}
use Rattle.cel_value.specs.Keys.{key_cmp}
use Rattle.cel_value.specs.Shared.{shared_entries}
use Rattle.cel_value.specs.SharedEntries.{values_of}
use Rattle.cel_value.proofs.Shared.{zip_rising}
use Rattle.cel_value.proofs.value.SharedEntries.iter.Goals as goal

pub returns-clause-ordered : goal.returns-clause-ordered
returns-clause-ordered c =
    subst (λ s. IsStrictlySortedBy key_cmp (keys_of (shared_entries s))) c.self.view_is
    (zip_rising c.self.inside.keys.value.items (values_of c.self.inside.values) c.self.invariant.0)
