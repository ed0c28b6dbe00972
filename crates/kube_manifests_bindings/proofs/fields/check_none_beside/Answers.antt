use Rattle.kube_manifests_bindings.proofs.Slices.{alone, beside}
use Rattle.kube_manifests_bindings.proofs.fields.check_none_beside.Goals as goal
use Rattle.kube_manifests_bindings.specs.Faults.{pointer_at}
use Rattle.std.proofs.Common.{sym, ◌∙◌}

pub returns-then-is_empty : goal.returns-then-is_empty
returns-then-is_empty c = alone (pointer_at c.args.location) c.args.other.now c.args.items.now (sym c.is_empty.ensures ∙ c.if-is_empty.true)

pub returns : goal.returns
returns c = beside (pointer_at c.args.location) c.args.other.now c.args.items.now (sym c.is_empty.ensures ∙ c.if-is_empty.false)
