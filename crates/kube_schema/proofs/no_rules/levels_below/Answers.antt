use Rattle.std.proofs.Common.{rules, arith, ◌≡◌, ◌-◌, ◌<◌, length, ℕ, Option, None, sym, ◌∙◌, subst, length-set}
use Rattle.std.proofs.Math.ListN.{replicate}
use Rattle.kube_schema.specs.NoRules.{AreKnown}
use Rattle.kube_schema.proofs.Levels.{known_start, known_set}
use Rattle.kube_schema.proofs.Trees.{nth_there}
use Rattle.kube_schema.proofs.no_rules.levels_below.Goals as goal

pub loop-done-init : goal.loop-done-init
loop-done-init g c =
    let t = c.args.table.now.nodes.items in
    let same : c.in_ok-below.below.items ≡ replicate {A = Option ℕ} c.len-count.result None = c.in_ok-below.ensures.items_if_clones_equal (λ y h. search rules) in
    record { long = sym c.in_ok-below.below.ok.0 ∙ c.in_ok-below.ensures.len; known = subst (AreKnown g.K.NodeKeywords.own t) (sym same) (known_start g.K.NodeKeywords.own t c.len-count.result) }

pub children_levels-requires : goal.children_levels-requires
children_levels-requires g c = subst (AreKnown g.K.NodeKeywords.own c.args.table.now.nodes.items) (sym c.deref.ensures.value) c.loop-done.invariant.known

pub loop-done-preserved : goal.loop-done-preserved
loop-done-preserved g c =
    let t = c.args.table.now in
    let old = c.loop-done.below.items in
    let at = c.len-count.result - 1 - c.loop-done.done in
    let within : at < length t.nodes.items = let count = c.len-count.ensures in let long = t.nodes.ok.0 in let more = c.loop-done-test.true in omega arith in
    record { long = length-set old at c.children_levels.result ∙ c.loop-done.invariant.long; known = known_set g.K.NodeKeywords.own t.nodes.items old at c.children_levels.result c.index.result.now t.closed (nth_there t.nodes.items at c.index.result.now within c.index.ensures) c.loop-done.invariant.known c.children_levels.ensures }
