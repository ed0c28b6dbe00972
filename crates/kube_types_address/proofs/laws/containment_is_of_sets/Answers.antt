use Rattle.kube_types_address.proofs.Sets.{containment}
use Rattle.kube_types_address.proofs.laws.containment_is_of_sets.Goals as goal

pub returns : goal.returns
returns c = λ outer inner out net. containment outer inner out net
