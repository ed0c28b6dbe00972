use Rattle.kube_types_address.proofs.Sets.{masked_least}
use Rattle.kube_types_address.proofs.laws.masked_is_the_least.Goals as goal

pub returns : goal.returns
returns c = masked_least
