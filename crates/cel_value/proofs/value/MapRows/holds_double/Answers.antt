use Rattle.std.proofs.Common.{length, sym, ap, ◌∙◌}
use Rattle.cel_value.specs.Rows.{row_entries, row_values}
use Rattle.cel_value.specs.Same.{entries_have_double}
use Rattle.cel_value.specs.View.{entries_view}
use Rattle.cel_value.proofs.Rows.{flat_row, zip_flat_doubles}
use Rattle.cel_value.proofs.value.MapRows.holds_double.Goals as goal

pub returns : goal.returns
returns c =
    let ks = c.self.inside.keys.value.items in
    let vs = c.self.inside.values.items in
    sym (zip_flat_doubles ks (row_values (length ks) c.args.row vs) (flat_row (length ks) c.args.row vs c.self.invariant.1))
    ∙ ap (λ s. entries_have_double (entries_view (row_entries s c.args.row))) c.self.view_is
