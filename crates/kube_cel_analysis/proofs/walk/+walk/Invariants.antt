use Rattle.std.proofs.Common.{◌≡◌, ◌+◌, ◌*◌, ◌++◌, map}
use Rattle.kube_cel_analysis.proofs.Rest.{rest}
use Rattle.kube_cel_analysis.proofs.Walks.{rest_nodes}
use Rattle.kube_cel_analysis.proofs.walk.+walk.Given as goal
use Rattle.kube_cel_analysis.specs.Findings.{Naming, finding_view}
use Rattle.kube_cel_analysis.specs.Lint.{branch_findings, named_findings}
use Rattle.kube_schema.specs.Shown.{node_tree}
use Rattle.kube_schema.specs.Tree.{branches_of, count, named_of}

abbrev pub decreases-lint_node : goal.decreases-lint_node
decreases-lint_node l = 2 * count (node_tree l.node.now) + 1

abbrev pub decreases-lint_properties : goal.decreases-lint_properties
decreases-lint_properties l = 2 * count (node_tree l.node.now)

abbrev pub decreases-lint_items : goal.decreases-lint_items
decreases-lint_items l = 2 * count (node_tree l.node.now)

abbrev pub decreases-lint_additional : goal.decreases-lint_additional
decreases-lint_additional l = 2 * count (node_tree l.node.now)

abbrev pub decreases-lint_branches : goal.decreases-lint_branches
decreases-lint_branches l = 2 * count (node_tree l.node.now)

-- the findings so far, followed by those within the properties that are left
abbrev pub invariant-lint_properties-loop-index : goal.invariant-lint_properties-loop-index
invariant-lint_properties-loop-index l = (names : Naming)
    → map finding_view l.found.items ++ named_findings names l.pointer (rest l.index (named_of (node_tree l.node)))
    ≡ map finding_view l.fn.found.items ++ named_findings names l.pointer (named_of (node_tree l.node))

abbrev pub invariant-lint_branches-loop-index : goal.invariant-lint_branches-loop-index
invariant-lint_branches-loop-index l = (names : Naming)
    → map finding_view l.found.items ++ branch_findings names l.kind l.pointer l.index (rest_nodes l.index (branches_of l.kind (node_tree l.node)))
    ≡ map finding_view l.fn.found.items ++ branch_findings names l.kind l.pointer 0 (branches_of l.kind (node_tree l.node))
