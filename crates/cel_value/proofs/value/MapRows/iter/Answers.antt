use Rattle.std.proofs.Common.{length, subst}
use Rattle.std.specs.List.Sorted.{IsStrictlySortedBy}
use Rattle.std.specs.Map.{keys_of}
use Rattle.cel_value.specs.Keys.{key_cmp}
use Rattle.cel_value.specs.Rows.{row_entries, row_values}
use Rattle.cel_value.proofs.Shared.{zip_rising}
use Rattle.cel_value.proofs.value.MapRows.iter.Goals as goal

pub returns-clause-ordered : goal.returns-clause-ordered
returns-clause-ordered c =
    let ks = c.self.inside.keys.value.items in
    subst (λ s. IsStrictlySortedBy key_cmp (keys_of (row_entries s c.args.row))) c.self.view_is
    (zip_rising ks (row_values (length ks) c.args.row c.self.inside.values.items) c.self.invariant.0)
