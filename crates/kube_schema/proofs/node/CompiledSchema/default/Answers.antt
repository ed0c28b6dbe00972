use Rattle.std.proofs.Common.{ap, ◌∙◌}
use Rattle.kube_schema.specs.Tree.{default_of}
use Rattle.kube_schema.proofs.node.CompiledSchema.default.Goals as goal

pub returns : goal.returns
returns c = c.default.ensures ∙ ap (default_of) c.root.ensures
