use Rattle.cel_value.specs.View.{view}
use Rattle.cel_stdlib.proofs.Leading.{leads_first, stepped, stuck, ended}
use Rattle.cel_stdlib.proofs.extremes.choose.Goals as goal

pub loop-value-init : goal.loop-value-init
loop-value-init c = leads_first c.args.end (view c.args.first.now)

pub returns-in-None : goal.returns-in-None
returns-in-None c =
    stuck c.args.end (view c.loop-value.best.now) (view c.args.first.now) c.args.rest.now c.loop-value.value-index c.value-item.result c.loop-value-test.true c.value-item.is c.loop-value.invariant c.in-None.ensures

pub loop-value-preserved : goal.loop-value-preserved
loop-value-preserved c =
    stepped c.args.end (view c.loop-value.best.now) (view c.args.first.now) (view c.in-Some.next.now) c.args.rest.now c.loop-value.value-index c.value-item.result c.loop-value-test.true c.value-item.is c.loop-value.invariant c.in-Some.ensures

pub returns : goal.returns
returns c =
    ended c.args.end (view c.loop-value.best.now) (view c.args.first.now) c.args.rest.now c.loop-value.value-index c.loop-value-test.false c.loop-value.invariant
