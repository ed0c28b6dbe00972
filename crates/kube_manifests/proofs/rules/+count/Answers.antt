use Rattle.std.proofs.Common.{◌<◌, ◌≤◌, ◌+◌, ◌^◌, length, subst, sym, ap, ◌∙◌, arith}
use Rattle.kube_cel_analysis.proofs.Rest.{rest}
use Rattle.kube_cel_analysis.proofs.Walks.{fewer_in_branch, fewer_in_property, rest_nodes}
use Rattle.kube_manifests.proofs.Counted.{all_counted, branches_more, branches_none, branches_past, counted_fits, properties_more, properties_none, properties_past, same_length}
use Rattle.kube_manifests.proofs.rules.+count.Goals as goal
use Rattle.kube_manifests.specs.Rules.{saturated_count, rules_in, rules_in_named, rules_in_nodes}
use Rattle.kube_schema.specs.Compilation.{compiled_seen}
use Rattle.kube_schema.specs.Shown.{node_tree}
use Rattle.kube_schema.specs.Tree.{branches_of, count, named_of, names, nodes_length, own}

pub with_branches-returns-in_default-branch : goal.with_branches-returns-in_default-branch
with_branches-returns-in_default-branch t c =
    branches_none c.loop-index.index (branches_of c.args.kind (node_tree c.args.node.now)) c.loop-index.all c.loop-index.invariant.0 c.in_default-branch.ensures
    ∙ c.loop-index.invariant.1

pub with_branches-with_node-all-requires : goal.with_branches-with_node-all-requires
with_branches-with_node-all-requires t c =
    let fewer : count (node_tree c.in_Some-branch.branch) < count (node_tree c.args.node.now) =
    fewer_in_branch c.args.kind (node_tree c.args.node.now) c.loop-index.index (node_tree c.in_Some-branch.branch) c.in_Some-branch.ensures in
    omega (arith, fewer)

pub with_branches-loop-index-preserved : goal.with_branches-loop-index-preserved
with_branches-loop-index-preserved t c =
    let ns = branches_of c.args.kind (node_tree c.args.node.now) in (
      subst (λ n. n < 2 ^ 64) (sym c.with_node-all.ensures) (counted_fits (c.loop-index.all + rules_in (node_tree c.in_Some-branch.branch))),
      ap (λ n. saturated_count (n + rules_in_nodes (rest_nodes (c.loop-index.index + 1) ns))) c.with_node-all.ensures
          ∙ branches_more c.loop-index.index ns (node_tree c.in_Some-branch.branch) c.loop-index.all c.in_Some-branch.ensures
          ∙ c.loop-index.invariant.1,
    )

pub with_branches-returns : goal.with_branches-returns
with_branches-returns t c =
    let ns = branches_of c.args.kind (node_tree c.args.node.now) in
    let past : nodes_length ns ≤ c.loop-index.index = let e = c.branch_count-index-end.ensures in let h = c.loop-index-test.false in omega arith in
    branches_past c.loop-index.index ns c.loop-index.all c.loop-index.invariant.0 past ∙ c.loop-index.invariant.1

pub with_node-returns : goal.with_node-returns
with_node-returns t c =
    let m = node_tree c.args.node.now in
    all_counted m c.args.count c.saturating_add-own.result c.with_properties-properties.result c.with_items-items.result c.with_additional-additional.result
    c.with_branches-all_of.result c.with_branches-one_of.result c.with_branches.result
    (c.saturating_add-own.ensures ∙ ap (λ n. saturated_count (c.args.count + n)) (same_length compiled_seen c.validations.result.now (own m).validations c.validations.ensures))
    c.with_properties-properties.ensures c.with_items-items.ensures c.with_additional-additional.ensures
    c.with_branches-all_of.ensures c.with_branches-one_of.ensures c.with_branches.ensures

pub with_properties-returns-in_default : goal.with_properties-returns-in_default
with_properties-returns-in_default t c =
    properties_none c.loop-index.index (named_of (node_tree c.args.node.now)) c.loop-index.all c.loop-index.invariant.0 c.in_default.ensures.pair ∙ c.loop-index.invariant.1

pub with_properties-with_node-all-requires : goal.with_properties-with_node-all-requires
with_properties-with_node-all-requires t c =
    let fewer : count (node_tree c.in-Some.property) < count (node_tree c.args.node.now) =
    fewer_in_property (node_tree c.args.node.now) c.loop-index.index c.in-Some.field-0-0.now (node_tree c.in-Some.property) c.in-Some.ensures.pair in
    omega (arith, fewer)

pub with_properties-loop-index-preserved : goal.with_properties-loop-index-preserved
with_properties-loop-index-preserved t c =
    let ns = named_of (node_tree c.args.node.now) in (
      subst (λ n. n < 2 ^ 64) (sym c.with_node-all.ensures) (counted_fits (c.loop-index.all + rules_in (node_tree c.in-Some.property))),
      ap (λ n. saturated_count (n + rules_in_named (rest (c.loop-index.index + 1) ns))) c.with_node-all.ensures
          ∙ properties_more c.loop-index.index ns c.in-Some.field-0-0.now (node_tree c.in-Some.property) c.loop-index.all c.in-Some.ensures.pair
          ∙ c.loop-index.invariant.1,
    )

pub with_properties-returns : goal.with_properties-returns
with_properties-returns t c =
    let ns = named_of (node_tree c.args.node.now) in
    let past : length (names ns) ≤ c.loop-index.index = let e = c.property_count-index-end.ensures.count in let h = c.loop-index-test.false in omega arith in
    properties_past c.loop-index.index ns c.loop-index.all c.loop-index.invariant.0 past ∙ c.loop-index.invariant.1
