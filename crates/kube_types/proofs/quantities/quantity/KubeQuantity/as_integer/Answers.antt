use Rattle.std.proofs.Common.{rules}
use Rattle.kube_types.specs.Quantity.Integers.{integer_of}
use Rattle.kube_types.proofs.quantities.quantity.KubeQuantity.as_integer.Goals as goal

pub returns-then-self-lt0 : goal.returns-then-self-lt0
unfolding integer_of
returns-then-self-lt0 c = search rules

pub returns-in-None : goal.returns-in-None
unfolding integer_of
returns-in-None c = search rules

pub returns-in-Err : goal.returns-in-Err
unfolding integer_of
returns-in-Err c = search rules

pub returns-in-Ok : goal.returns-in-Ok
unfolding integer_of
returns-in-Ok c = search rules
