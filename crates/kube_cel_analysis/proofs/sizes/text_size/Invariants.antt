use Rattle.std.proofs.Common.{◌≡◌}
use Rattle.kube_cel_analysis.proofs.Rest.{rest}
use Rattle.kube_cel_analysis.proofs.sizes.text_size.Given as goal
use Rattle.kube_cel_analysis.specs.Bounds.{first_bound, text_bound}
use Rattle.kube_schema.specs.Shown.{node_tree}
use Rattle.kube_schema.specs.Tree.{named_of}

abbrev pub invariant-loop-index : goal.invariant-loop-index
invariant-loop-index l = first_bound text_bound (rest l.index (named_of (node_tree l.node))) ≡ first_bound text_bound (named_of (node_tree l.node))
