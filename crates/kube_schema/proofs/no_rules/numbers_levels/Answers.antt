use Rattle.std.proofs.Common.{arith}
use Rattle.std.proofs.lemmas.Option.{slice_get_within, slice_get-get_or}
use Rattle.kube_schema.specs.declared.nodes.NodeId.{NodeId}
use Rattle.kube_schema.specs.Raw.{tree}
use Rattle.kube_schema.proofs.Levels.{no_rules_in_all}
use Rattle.kube_schema.proofs.no_rules.numbers_levels.Goals as goal

pub loop-number-preserved : goal.loop-number-preserved
loop-number-preserved g c =
    let m = c.max-most in
    no_rules_in_all (λ (x : NodeId). tree g.K.NodeKeywords.own c.args.table.now.nodes.items x.0) c.args.numbers.now c.loop-number.number-index _ c.loop-number.most c.in_ok-levels.levels c.max-most.result (slice_get-get_or c.args.numbers.now c.loop-number.number-index (record { 0 = 0 }) c.loop-number-test.true) (omega arith) (omega arith) c.loop-number.invariant c.in_ok-levels.ensures

pub returns : goal.returns
returns g c = λ i x e. let h = slice_get_within c.args.numbers.now i x e in c.loop-number.invariant i x (omega arith) e
