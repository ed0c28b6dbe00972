use Rattle.std.proofs.Common.{ap, ◌∙◌}
use Rattle.kube_schema.specs.Tree.{all_of, nth_node}
use Rattle.kube_schema.proofs.node.CompiledSchema.all_of.Goals as goal

pub returns : goal.returns
returns c = c.all_of.ensures ∙ ap (λ n. nth_node c.args.i (all_of n)) c.root.ensures
