use Rattle.std.proofs.Common.{◌≤◌, List, slice_get, ap, ◌∙◌, arith}
use Rattle.kube_schema.specs.declared.nodes.PropertyLink.{PropertyLink}
use Rattle.kube_schema.specs.NoRules.{HasNoRules}
use Rattle.kube_schema.specs.Raw.{tree}
use Rattle.kube_schema.proofs.Levels.{each_assembled, no_rules_more, no_rules_in_numbers}
use Rattle.kube_schema.proofs.no_rules.children_levels.Goals as goal

pub returns : goal.returns
returns g c =
    let f = tree g.K.NodeKeywords.own c.args.table.now.nodes.items in
    let m = c.max-4.result in
    let e1 = c.max.ensures in let e2 = c.max-single.ensures in let e3 = c.max-2.ensures in let e4 = c.max-3.ensures in let e5 = c.max-4.ensures in
    let less1 : c.in_ok-properties.properties ≤ m = omega arith in
    let less2 : c.in_ok-items.items ≤ m = omega arith in
    let less3 : c.in_ok-additional.additional ≤ m = omega arith in
    let less4 : c.in_ok-all_of.all_of ≤ m = omega arith in
    let less5 : c.in_ok-one_of.one_of ≤ m = omega arith in
    let less6 : c.in_ok-any_of.any_of ≤ m = omega arith in
    each_assembled (HasNoRules m) f g.K.NodeKeywords.own c.args.node.now
    (λ i l e. no_rules_more c.in_ok-properties.properties m (f l.node.0) less1 (c.in_ok-properties.ensures i l (ap (λ (ls : List PropertyLink). slice_get ls i) c.deref.ensures.value ∙ e)))
    (λ n e. no_rules_more c.in_ok-items.items m (f n.0) less2 (c.in_ok-items.ensures n e))
    (λ n e. no_rules_more c.in_ok-additional.additional m (f n.0) less3 (c.in_ok-additional.ensures n e))
    (no_rules_in_numbers c.in_ok-all_of.all_of m f _ _ less4 c.deref-2.ensures.value c.in_ok-all_of.ensures)
    (no_rules_in_numbers c.in_ok-one_of.one_of m f _ _ less5 c.deref-3.ensures.value c.in_ok-one_of.ensures)
    (no_rules_in_numbers c.in_ok-any_of.any_of m f _ _ less6 c.deref-4.ensures.value c.in_ok-any_of.ensures)
