use Rattle.std.proofs.Common.{ap, ◌∙◌}
use Rattle.kube_schema.specs.Tree.{property_of}
use Rattle.kube_schema.proofs.node.CompiledSchema.property_named.Goals as goal

pub returns : goal.returns
returns c = c.property_named.ensures ∙ ap (property_of c.args.name.now) c.root.ensures
