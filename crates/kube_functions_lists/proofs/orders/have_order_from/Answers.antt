use Rattle.std.proofs.Common.{◌∙◌, map}
use Rattle.cel_value.specs.View.{view}
use Rattle.kube_functions_lists.proofs.Classes.{one_for_all}
use Rattle.kube_functions_lists.proofs.orders.have_order_from.Goals as goal

pub returns : goal.returns
returns c = c.compares_with_all.ensures ∙ one_for_all (view c.args.first.now) (map view c.args.rest.now)
