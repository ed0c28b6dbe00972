use Rattle.std.proofs.Common.{is_err, ap, ◌∙◌}
use Rattle.std.specs.List.{list_any}
use Rattle.kube_schema.specs.Tree.{own}
use Rattle.kube_schema.proofs.node.CompiledSchema.has_errors.Goals as goal

pub returns : goal.returns
returns c = c.has_errors.ensures ∙ ap (λ n. list_any is_err (own n).validations) c.root.ensures
