use Rattle.std.proofs.Common.{◌++◌, ◌||◌, max, ap, sym, ◌∙◌}
use Rattle.cel_value.specs.Levels.{entries_levels}
use Rattle.cel_value.specs.Same.{entries_have_double}
use Rattle.cel_value.specs.StoredEntries.{all_entries, tree_entries}
use Rattle.cel_value.specs.View.{entries_view}
use Rattle.cel_value.proofs.Members.{joined_all}
use Rattle.cel_value.proofs.value.Entries.doubles_and_levels.Goals as goal

pub returns-in-Some : goal.returns-in-Some
returns-in-Some c =
    let rest = c.self.inside.rest.items in
    let tail = tree_entries c.self.inside.tail in
    let first = c.joined-so_far.result in
    let slice = ap (λ es. (first.0 || entries_have_double (entries_view es), max first.1 (entries_levels (entries_view es)))) c.as_slice.ensures.value in
    joined_all c.in-Some.first rest tail first c.with_entries.result c.with_tree.result c.joined-so_far.ensures (c.with_entries.ensures ∙ slice) c.with_tree.ensures
    ∙ ap (λ f. (entries_have_double (entries_view (all_entries f (rest ++ tail))), entries_levels (entries_view (all_entries f (rest ++ tail))))) (sym c.in-Some.is)
    ∙ ap (λ l. (entries_have_double (entries_view l.entries), entries_levels (entries_view l.entries))) c.self.view_is
