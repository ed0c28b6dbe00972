use Rattle.kube_functions_format.proofs.Plain.{one_value_is_printed}
use Rattle.kube_functions_format.proofs.laws.one_value_is_printed.Goals as goal

pub returns : goal.returns
returns c = one_value_is_printed
