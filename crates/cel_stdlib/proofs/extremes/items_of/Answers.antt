use Rattle.cel_value.specs.View.{view}
use Rattle.cel_stdlib.proofs.Leading.{listed}
use Rattle.cel_stdlib.proofs.extremes.items_of.Goals as goal

pub returns-in-Some : goal.returns-in-Some
returns-in-Some c = listed (view c.args.value.now) c.as_slice.result.now c.in-Some.items.now c.as_slice.ensures c.in-Some.ensures
