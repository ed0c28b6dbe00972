use Rattle.kube_manifests_bindings.proofs.Slices.{missing, there}
use Rattle.kube_manifests_bindings.proofs.fields.unless_none.Goals as goal
use Rattle.kube_manifests_bindings.specs.Faults.{pointer_at}
use Rattle.std.proofs.Common.{sym, ◌∙◌}

pub returns-then-is_empty : goal.returns-then-is_empty
returns-then-is_empty c = missing (pointer_at c.args.location) c.args.items.now (sym c.is_empty.ensures ∙ c.if-is_empty.true)

pub returns : goal.returns
returns c = there (pointer_at c.args.location) c.args.items.now (sym c.is_empty.ensures ∙ c.if-is_empty.false)
