use Rattle.std.proofs.Common.{option_map, sym, ap, ◌∙◌}
use Rattle.cel_value.specs.Blocks.{map_in}
use Rattle.cel_value.specs.Find.{find}
use Rattle.cel_value.specs.Keys.{key_view}
use Rattle.cel_value.specs.Rows.{row_entries}
use Rattle.cel_value.specs.View.{view}
use Rattle.cel_value.proofs.MapEntries.{find-lookup, view-copied}
use Rattle.cel_value.proofs.value.MapBlock.get.Goals as goal

pub returns-in-Rows : goal.returns-in-Rows
returns-in-Rows c =
    let row = c.args.row in
    let k = c.args.key.now in
    view-copied c.get-in-Rows.result ∙ ap (option_map view) c.get-in-Rows.ensures ∙ find-lookup k (row_entries c.in-Rows.rows row)
    ∙ ap (λ b. find (key_view k) (map_in b row)) (sym c.in-Rows.is)
