use Rattle.std.proofs.Common.{◌≡◌, ◌<◌, ◌+◌, ◌*◌, ◌^◌}
use Rattle.kube_cel_analysis.proofs.Rest.{rest}
use Rattle.kube_cel_analysis.proofs.Walks.{rest_nodes}
use Rattle.kube_manifests.proofs.rules.+count.Given as goal
use Rattle.kube_manifests.specs.Rules.{saturated_count, rules_in_named, rules_in_nodes}
use Rattle.kube_schema.specs.Shown.{node_tree}
use Rattle.kube_schema.specs.Tree.{branches_of, count, named_of}

abbrev pub decreases-with_node : goal.decreases-with_node
decreases-with_node l = 2 * count (node_tree l.node.now) + 1

abbrev pub decreases-with_properties : goal.decreases-with_properties
decreases-with_properties l = 2 * count (node_tree l.node.now)

abbrev pub decreases-with_items : goal.decreases-with_items
decreases-with_items l = 2 * count (node_tree l.node.now)

abbrev pub decreases-with_additional : goal.decreases-with_additional
decreases-with_additional l = 2 * count (node_tree l.node.now)

abbrev pub decreases-with_branches : goal.decreases-with_branches
decreases-with_branches l = 2 * count (node_tree l.node.now)

-- the count plus that of the remaining properties
abbrev pub invariant-with_properties-loop-index : goal.invariant-with_properties-loop-index
invariant-with_properties-loop-index l = (l.all < 2 ^ 64)
    × (saturated_count (l.all + rules_in_named (rest l.index (named_of (node_tree l.node)))) ≡ saturated_count (l.fn.count + rules_in_named (named_of (node_tree l.node))))

abbrev pub invariant-with_branches-loop-index : goal.invariant-with_branches-loop-index
invariant-with_branches-loop-index l = (l.all < 2 ^ 64)
    × (saturated_count (l.all + rules_in_nodes (rest_nodes l.index (branches_of l.kind (node_tree l.node)))) ≡ saturated_count (l.fn.count + rules_in_nodes (branches_of l.kind (node_tree l.node))))
