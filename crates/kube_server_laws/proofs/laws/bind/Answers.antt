use Rattle.kube_server_laws.proofs.Optionals.{bind_error, bind_law}
use Rattle.kube_server_laws.proofs.laws.bind.Goals as goal

pub returns : goal.returns
returns c = record { of_value = bind_law; of_error = bind_error }
