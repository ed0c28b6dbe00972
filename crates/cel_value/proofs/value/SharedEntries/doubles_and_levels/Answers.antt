use Rattle.std.proofs.Common.{ap, ◌∙◌}
use Rattle.cel_value.specs.Levels.{entries_levels, items_levels}
use Rattle.cel_value.specs.Same.{entries_have_double, items_have_double}
use Rattle.cel_value.specs.Shared.{shared_entries}
use Rattle.cel_value.specs.SharedEntries.{values_of}
use Rattle.cel_value.specs.View.{items_view, entries_view}
use Rattle.cel_value.proofs.Shared.{zip_doubles, zip_levels}
use Rattle.cel_value.proofs.value.SharedEntries.doubles_and_levels.Goals as goal

pub returns : goal.returns
returns c =
    let ks = c.self.inside.keys.value.items in
    let vs = values_of c.self.inside.values in
    c.all_joined.ensures ∙ ap (λ l. (items_have_double (items_view l), items_levels (items_view l))) c.as_slice.ensures ∙ (λ i. (zip_doubles ks vs c.self.invariant.1 i, zip_levels ks vs c.self.invariant.1 i))
    ∙ ap (λ s. (entries_have_double (entries_view (shared_entries s)), entries_levels (entries_view (shared_entries s)))) c.self.view_is
