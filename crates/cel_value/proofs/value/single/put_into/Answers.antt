use Rattle.std.proofs.Common.{ap, ◌∙◌}
use Rattle.cel_value.specs.View.{entries_view}
use Rattle.cel_value.proofs.MapEntries.{entries_view-insert_entry}
use Rattle.cel_value.proofs.value.single.put_into.Goals as goal

pub returns-clause-added : goal.returns-clause-added
returns-clause-added c = ap entries_view c.in_ok-insert.ensures.entries ∙ entries_view-insert_entry c.args.entries.now.entries c.args.key c.args.value
