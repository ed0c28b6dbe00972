use Rattle.std.proofs.Common.{sym, ◌∙◌}
use Rattle.kube_manifests_documents.proofs.Slices.{missing, there}
use Rattle.kube_manifests_documents.proofs.definition.unless_none.Goals as goal

pub returns-then-is_empty : goal.returns-then-is_empty
returns-then-is_empty c = missing c.args.entries.now (sym c.is_empty.ensures ∙ c.if-is_empty.true)

pub returns-else-is_empty : goal.returns-else-is_empty
returns-else-is_empty c = there c.args.entries.now (sym c.is_empty.ensures ∙ c.if-is_empty.false)
