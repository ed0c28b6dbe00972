use Rattle.kube_server_laws.proofs.Functions.{optional_none, optional_of}
use Rattle.kube_server_laws.proofs.laws.optionals.Goals as goal

pub returns : goal.returns
returns c = record { of = optional_of; none = optional_none }
