use Rattle.std.proofs.Common.{◌∙◌, ◌≤◌, length, sym, arith, true, false}
use Rattle.kube_cel_analysis.proofs.Rest.{unbounded_at, bounded_at, bounded_past}
use Rattle.kube_cel_analysis.proofs.sizes.has_unbounded.Goals as goal
use Rattle.kube_schema.specs.Shown.{node_tree}
use Rattle.kube_schema.specs.Tree.{named_of, names}

pub returns-in_default : goal.returns-in_default
returns-in_default c = bounded_at c.loop-index.index (named_of (node_tree c.args.node.now)) c.in_default.ensures.pair ∙ c.loop-index.invariant

pub returns-then-is_unbounded : goal.returns-then-is_unbounded
returns-then-is_unbounded c =
    unbounded_at c.loop-index.index (named_of (node_tree c.args.node.now)) c.in-Some._name.now (node_tree c.in-Some.property) true c.in-Some.ensures.pair (sym c.if-is_unbounded.ensures)
    ∙ c.loop-index.invariant

pub loop-index-preserved : goal.loop-index-preserved
loop-index-preserved c =
    unbounded_at c.loop-index.index (named_of (node_tree c.args.node.now)) c.in-Some._name.now (node_tree c.in-Some.property) false c.in-Some.ensures.pair (sym c.if-is_unbounded.ensures)
    ∙ c.loop-index.invariant

pub returns : goal.returns
returns c =
    let ns = named_of (node_tree c.args.node.now) in
    let past : length (names ns) ≤ c.loop-index.index = let e = c.property_count-index-end.ensures.count in let h = c.loop-index-test.false in omega arith in
    bounded_past c.loop-index.index ns past ∙ c.loop-index.invariant
