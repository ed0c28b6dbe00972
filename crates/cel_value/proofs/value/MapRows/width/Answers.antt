use Rattle.std.proofs.Common.{length, sym, ap, ◌∙◌, ◌≤◌, ◌*◌, suc, subst}
use Rattle.cel_value.specs.Find.{list_of_entries}
use Rattle.cel_value.specs.Rows.{row_entries, row_values}
use Rattle.cel_value.specs.Shared.{Shared}
use Rattle.cel_value.specs.View.{entries_view}
use Rattle.std.specs.Prelude.{zip}
use Rattle.cel_value.proofs.Members.{entries_length}
use Rattle.cel_value.proofs.Rows.{row_count}
use Rattle.cel_value.proofs.value.MapRows.width.Goals as goal

pub returns : goal.returns
returns c =
    let i = c.args.row in
    let ks = c.self.inside.keys.value.items in
    let vs = c.self.inside.values.items in
    let whole = subst (λ (s : Shared). suc i * length s.keys ≤ length s.values) (sym c.self.view_is) c.requires in
    ap length (c.as_slice-width.ensures.value ∙ ap (λ v. v.items) c.deref.ensures) ∙ row_count ks i vs whole ∙ sym (entries_length (zip ks (row_values (length ks) i vs)))
    ∙ ap (λ s. length (list_of_entries (entries_view (row_entries s i)))) c.self.view_is
