use Rattle.kube_types_address.proofs.OfTexts.{read_is_address, read_is_network}
use Rattle.kube_types_address.proofs.laws.what_is_read_is_an_address.Goals as goal

pub returns-clause-address : goal.returns-clause-address
returns-clause-address c = read_is_address

pub returns-clause-network : goal.returns-clause-network
returns-clause-network c = read_is_network
