use Rattle.kube_types_address.proofs.Printing.{read-printed}
use Rattle.kube_types_address.proofs.laws.printed_addresses_mean_themselves.Goals as goal

pub returns : goal.returns
returns c = read-printed
