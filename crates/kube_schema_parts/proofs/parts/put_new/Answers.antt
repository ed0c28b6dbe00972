use Rattle.std.proofs.Common.{not, option_map, sym, ap, ◌∙◌}
use Rattle.cel_value.specs.View.{view, entries_view}
use Rattle.cel_value.specs.declared.key.Key.TheVariants as key
use Rattle.cel_value.proofs.MapEntries.{entries_view-insert_entry, find-lookup}
use Rattle.kube_schema_parts.proofs.Bound.{none_seen}
use Rattle.kube_schema_parts.proofs.parts.put_new.Goals as goal

pub returns-clause-entered : goal.returns-clause-entered
returns-clause-entered c =
    ap entries_view c.in_ok-before.ensures.entries ∙ entries_view-insert_entry c.args.entries.now.entries (key.String c.args.key) c.args.value

pub returns-clause-new : goal.returns-clause-new
returns-clause-new c = λ h.
    sym (find-lookup (key.String c.args.key) c.args.entries.now.entries) ∙ ap (option_map view) (sym c.in_ok-before.ensures.old) ∙ none_seen c.in_ok-before.before (c.is_none.ensures ∙ ap not h)
