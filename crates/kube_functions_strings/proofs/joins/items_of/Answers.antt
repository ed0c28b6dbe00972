use Rattle.cel_value.specs.View.{view}
use Rattle.kube_functions_strings.proofs.Joining.{listed}
use Rattle.kube_functions_strings.proofs.joins.items_of.Goals as goal

pub returns-in-Some : goal.returns-in-Some
returns-in-Some c = listed (view c.args.value.now) c.as_slice.result.now c.in-Some.items.now c.as_slice.ensures c.in-Some.ensures
