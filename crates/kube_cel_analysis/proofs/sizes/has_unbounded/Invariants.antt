use Rattle.std.proofs.Common.{◌≡◌}
use Rattle.kube_cel_analysis.proofs.Rest.{rest}
use Rattle.kube_cel_analysis.proofs.sizes.has_unbounded.Given as goal
use Rattle.kube_cel_analysis.specs.Bounds.{has_unbounded}
use Rattle.kube_schema.specs.Shown.{node_tree}
use Rattle.kube_schema.specs.Tree.{named_of}

abbrev pub invariant-loop-index : goal.invariant-loop-index
invariant-loop-index l = has_unbounded (rest l.index (named_of (node_tree l.node))) ≡ has_unbounded (named_of (node_tree l.node))
