use Rattle.kube_types_address.proofs.Sets.{masked_twice}
use Rattle.kube_types_address.proofs.laws.masked_twice_is_masked_once.Goals as goal

pub returns : goal.returns
returns c = masked_twice
