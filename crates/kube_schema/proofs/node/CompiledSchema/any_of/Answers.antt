use Rattle.std.proofs.Common.{ap, ◌∙◌}
use Rattle.kube_schema.specs.Tree.{any_of, nth_node}
use Rattle.kube_schema.proofs.node.CompiledSchema.any_of.Goals as goal

pub returns : goal.returns
returns c = c.any_of.ensures ∙ ap (λ n. nth_node c.args.i (any_of n)) c.root.ensures
