use Rattle.std.proofs.Common.{◌<◌, ◌≤◌, ◌++◌, map, length, ap, ◌∙◌, arith}
use Rattle.kube_cel_analysis.proofs.Walks.{branches_more, branches_none, branches_past, fewer_in_branch, fewer_in_property, gathered, named_more, named_none, named_past}
use Rattle.kube_cel_analysis.proofs.walk.+walk.Goals as goal
use Rattle.kube_cel_analysis.specs.Findings.{finding_view}
use Rattle.kube_cel_analysis.specs.Lint.{findings}
use Rattle.kube_schema.specs.Shown.{node_tree}
use Rattle.kube_schema.specs.Tree.{branches_of, count, named_of, names, nodes_length}

pub lint_node-returns-clause-found : goal.lint_node-returns-clause-found
lint_node-returns-clause-found t c = λ naming.
    gathered naming c.args.pointer.now (node_tree c.args.node.now)
    (map finding_view c.args.found.now.items) (map finding_view c.add_rules.new.found.items) (map finding_view c.lint_properties.new.found.items)
    (map finding_view c.lint_items.new.found.items) (map finding_view c.lint_additional.new.found.items) (map finding_view c.lint_branches.new.found.items)
    (map finding_view c.lint_branches-2.new.found.items) (map finding_view c.lint_branches-3.new.found.items)
    (c.in_ok-add_rules.ensures.found naming) (c.in_ok-lint_properties.ensures.found naming) (c.in_ok-lint_items.ensures.found naming) (c.in_ok-lint_additional.ensures.found naming)
    (c.in_ok-lint_branches.ensures.found naming) (c.in_ok-lint_branches-2.ensures.found naming) (c.in_ok-lint_branches-3.ensures.found naming)

pub lint_properties-returns-in_default-clause-found : goal.lint_properties-returns-in_default-clause-found
lint_properties-returns-in_default-clause-found t c = λ naming.
    named_none naming c.args.pointer.now c.loop-index.index (named_of (node_tree c.args.node.now)) (map finding_view c.loop-index.found.items) c.in_default.ensures.pair
    ∙ c.loop-index.invariant naming

pub lint_properties-lint_node-requires : goal.lint_properties-lint_node-requires
lint_properties-lint_node-requires t c =
    let fewer : count (node_tree c.in-Some.property) < count (node_tree c.args.node.now) =
    fewer_in_property (node_tree c.args.node.now) c.loop-index.index c.in-Some.name.now (node_tree c.in-Some.property) c.in-Some.ensures.pair in
    let here = c.requires in omega (arith, here, fewer)

pub lint_properties-loop-index-preserved : goal.lint_properties-loop-index-preserved
lint_properties-loop-index-preserved t c = λ naming.
    let had = map finding_view c.loop-index.found.items in
    named_more naming c.args.pointer.now c.loop-index.index (named_of (node_tree c.args.node.now)) c.in-Some.name.now (node_tree c.in-Some.property) had
    (map finding_view c.lint_node.new.found.items) c.in-Some.ensures.pair
    (c.in_ok-lint_node.ensures.found naming ∙ ap (λ q. had ++ findings naming q (node_tree c.in-Some.property)) (c.as_str.ensures.value ∙ c.in_ok-inner.ensures))
    ∙ c.loop-index.invariant naming

pub lint_properties-returns-clause-found : goal.lint_properties-returns-clause-found
lint_properties-returns-clause-found t c = λ naming.
    let ns = named_of (node_tree c.args.node.now) in
    let past : length (names ns) ≤ c.loop-index.index = let e = c.property_count-index-end.ensures.count in let h = c.loop-index-test.false in omega arith in
    named_past naming c.args.pointer.now c.loop-index.index ns (map finding_view c.loop-index.found.items) past ∙ c.loop-index.invariant naming

pub lint_branches-returns-in_default-branch-clause-found : goal.lint_branches-returns-in_default-branch-clause-found
lint_branches-returns-in_default-branch-clause-found t c = λ naming.
    branches_none naming c.args.pointer.now c.args.kind c.loop-index.index (branches_of c.args.kind (node_tree c.args.node.now)) (map finding_view c.loop-index.found.items) c.in_default-branch.ensures
    ∙ c.loop-index.invariant naming

pub lint_branches-lint_node-requires : goal.lint_branches-lint_node-requires
lint_branches-lint_node-requires t c =
    let fewer : count (node_tree c.in_Some-branch.branch) < count (node_tree c.args.node.now) =
    fewer_in_branch c.args.kind (node_tree c.args.node.now) c.loop-index.index (node_tree c.in_Some-branch.branch) c.in_Some-branch.ensures in
    let here = c.requires in omega (arith, here, fewer)

pub lint_branches-loop-index-preserved : goal.lint_branches-loop-index-preserved
lint_branches-loop-index-preserved t c = λ naming.
    let had = map finding_view c.loop-index.found.items in
    branches_more naming c.args.pointer.now c.args.kind c.loop-index.index (branches_of c.args.kind (node_tree c.args.node.now)) (node_tree c.in_Some-branch.branch) had
    (map finding_view c.lint_node.new.found.items) c.in_Some-branch.ensures
    (c.in_ok-lint_node.ensures.found naming ∙ ap (λ q. had ++ findings naming q (node_tree c.in_Some-branch.branch)) (c.as_str.ensures.value ∙ c.in_ok-inner.ensures))
    ∙ c.loop-index.invariant naming

pub lint_branches-returns-clause-found : goal.lint_branches-returns-clause-found
lint_branches-returns-clause-found t c = λ naming.
    let ns = branches_of c.args.kind (node_tree c.args.node.now) in
    let past : nodes_length ns ≤ c.loop-index.index = let e = c.branch_count-index-end.ensures in let h = c.loop-index-test.false in omega arith in
    branches_past naming c.args.pointer.now c.args.kind c.loop-index.index ns (map finding_view c.loop-index.found.items) past ∙ c.loop-index.invariant naming
