use Rattle.std.proofs.Common.{arith}
use Rattle.std.proofs.lemmas.Option.{slice_get_within}
use Rattle.kube_schema.specs.declared.nodes.PropertyLink.{PropertyLink}
use Rattle.kube_schema.specs.Raw.{tree}
use Rattle.kube_schema.proofs.Levels.{no_rules_in_all}
use Rattle.kube_schema.proofs.Trees.{nth_there}
use Rattle.kube_schema.proofs.no_rules.links_levels.Goals as goal

pub loop-link-preserved : goal.loop-link-preserved
loop-link-preserved g c =
    let m = c.max-most in
    no_rules_in_all (λ (x : PropertyLink). tree g.K.NodeKeywords.own c.args.table.now.nodes.items x.node.0) c.args.links.now c.loop-link.link-index c.link-item.result c.loop-link.most c.in_ok-levels.levels c.max-most.result (nth_there c.args.links.now c.loop-link.link-index c.link-item.result c.loop-link-test.true c.link-item.is) (omega arith) (omega arith) c.loop-link.invariant c.in_ok-levels.ensures

pub returns : goal.returns
returns g c = λ i x e. let h = slice_get_within c.args.links.now i x e in c.loop-link.invariant i x (omega arith) e
