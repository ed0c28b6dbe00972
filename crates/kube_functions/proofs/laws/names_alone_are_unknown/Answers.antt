use Rattle.kube_functions.specs.Names.{unknown_by_name}
use Rattle.kube_functions.proofs.laws.names_alone_are_unknown.Goals as goal

pub returns : goal.returns
returns c = unknown_by_name
