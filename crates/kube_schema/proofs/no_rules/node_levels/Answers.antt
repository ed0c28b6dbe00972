use Rattle.std.proofs.Common.{◌≡◌, ◌+◌, length, slice_get, Some, sym, ap, ◌∙◌, arith}
use Rattle.std.proofs.lemmas.Option.{slice_get-get_or}
use Rattle.kube_schema.specs.NoRules.{HasNoRules}
use Rattle.kube_schema.specs.Raw.{tree}
use Rattle.kube_schema.proofs.Levels.{if_fits, no_rules_at}
use Rattle.kube_schema.proofs.no_rules.node_levels.Goals as goal

pub returns : goal.returns
returns g c =
    let t = c.args.table.now in
    let i = c.args.number.0 in
    let v = c.in_ok-levels.levels in
    let r = c.in_ok-node.node.now in
    let a = c.in_ok-node.ensures.lookup in
    let b = c.in_ok-get.ensures.lookup in
    let node : slice_get t.nodes.items i ≡ Some r = ap (λ xs. slice_get xs i) (sym c.deref.ensures.value) ∙ slice_get-get_or _ _ _ a.3.0 ∙ ap Some (sym a.1) in
    let entry : slice_get c.args.below.now i ≡ Some (Some v) = slice_get-get_or _ _ _ b.3.0 ∙ ap Some (sym b.1) ∙ ap Some c.in_ok-levels.was in
    if_fits c.checked_add.result _ (v + 1) (λ w. HasNoRules w (tree g.K.NodeKeywords.own t.nodes.items i)) c.checked_add.ensures (no_rules_at g.K.NodeKeywords.own t.nodes.items i v (v + 1) r t.closed node (c.may_have_rules.ensures c.if-may_have_rules.false) (c.requires i v entry) (omega arith))
