use Rattle.kube_functions.proofs.Kept.{string_of_receiver, string_of_argument}
use Rattle.kube_functions.proofs.laws.addresses_have_strings.Goals as goal

pub returns-clause-method : goal.returns-clause-method
returns-clause-method c = string_of_receiver

pub returns-clause-global : goal.returns-clause-global
returns-clause-global c = string_of_argument
