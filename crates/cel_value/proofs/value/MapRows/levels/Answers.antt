use Rattle.std.proofs.Common.{length, sym, ap, ◌∙◌}
use Rattle.cel_value.specs.Levels.{entries_levels}
use Rattle.cel_value.specs.Rows.{row_entries, row_values}
use Rattle.cel_value.specs.View.{entries_view}
use Rattle.cel_value.proofs.Rows.{flat_row, zip_flat_levels}
use Rattle.cel_value.proofs.value.MapRows.levels.Goals as goal

pub returns-clause-value : goal.returns-clause-value
returns-clause-value c =
    let ks = c.self.inside.keys.value.items in
    let vs = c.self.inside.values.items in
    sym (zip_flat_levels ks (row_values (length ks) c.args.row vs) (flat_row (length ks) c.args.row vs c.self.invariant.1))
    ∙ ap (λ s. entries_levels (entries_view (row_entries s c.args.row))) c.self.view_is
