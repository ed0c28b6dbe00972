use Rattle.kube_functions.proofs.Dotted.{no_methods, taken_as_named}
use Rattle.kube_functions.proofs.laws.dotted_names_are_those_of_the_table.Goals as goal

pub returns-clause-globals : goal.returns-clause-globals
returns-clause-globals c = taken_as_named

pub returns-clause-methods : goal.returns-clause-methods
returns-clause-methods c = no_methods
