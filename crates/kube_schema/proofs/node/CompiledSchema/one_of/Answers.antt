use Rattle.std.proofs.Common.{ap, ◌∙◌}
use Rattle.kube_schema.specs.Tree.{nth_node, one_of}
use Rattle.kube_schema.proofs.node.CompiledSchema.one_of.Goals as goal

pub returns : goal.returns
returns c = c.one_of.ensures ∙ ap (λ n. nth_node c.args.i (one_of n)) c.root.ensures
