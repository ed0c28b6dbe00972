use Rattle.std.proofs.Common.{◌∙◌, ◌≤◌, length, arith}
use Rattle.kube_cel_analysis.proofs.Rest.{bound_here, bound_later, no_bound_at, no_bound_past}
use Rattle.kube_cel_analysis.proofs.sizes.text_size.Goals as goal
use Rattle.kube_cel_analysis.specs.Bounds.{text_bound}
use Rattle.kube_schema.specs.Shown.{node_tree}
use Rattle.kube_schema.specs.Tree.{named_of, names}

pub returns-in_default : goal.returns-in_default
returns-in_default c = no_bound_at text_bound c.loop-index.index (named_of (node_tree c.args.node.now)) c.in_default.ensures.pair ∙ c.loop-index.invariant

pub returns-in-Some-max_length : goal.returns-in-Some-max_length
returns-in-Some-max_length c =
    bound_here text_bound c.loop-index.index (named_of (node_tree c.args.node.now)) c.in-Some._name.now (node_tree c.in-Some.property) c.in-Some-max_length.length c.in-Some.ensures.pair c.in-Some-max_length.ensures
    ∙ c.loop-index.invariant

pub loop-index-preserved : goal.loop-index-preserved
loop-index-preserved c =
    bound_later text_bound c.loop-index.index (named_of (node_tree c.args.node.now)) c.in-Some._name.now (node_tree c.in-Some.property) c.in-Some.ensures.pair c.in_default-max_length.ensures
    ∙ c.loop-index.invariant

pub returns : goal.returns
returns c =
    let ns = named_of (node_tree c.args.node.now) in
    let past : length (names ns) ≤ c.loop-index.index = let e = c.property_count-index-end.ensures.count in let h = c.loop-index-test.false in omega arith in
    no_bound_past text_bound c.loop-index.index ns past ∙ c.loop-index.invariant
