use Rattle.kube_types_address.proofs.Cuts.{cidr_read-printed}
use Rattle.kube_types_address.proofs.laws.printed_cidrs_mean_themselves.Goals as goal

pub returns : goal.returns
returns c = cidr_read-printed
