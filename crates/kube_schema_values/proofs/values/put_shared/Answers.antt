use Rattle.std.proofs.Common.{ap, ◌∙◌}
use Rattle.cel_value.specs.View.{entries_view}
use Rattle.cel_value.specs.declared.key.Key.TheVariants as key
use Rattle.cel_value.proofs.MapEntries.{entries_view-insert_entry}
use Rattle.kube_schema_values.proofs.values.put_shared.Goals as goal

pub returns-clause-entered : goal.returns-clause-entered
returns-clause-entered c =
    ap entries_view c.in_ok-insert.ensures.entries ∙ entries_view-insert_entry c.args.entries.now.entries (key.String c.args.key) c.args.value
