use Rattle.kube_cel_analysis.proofs.Named.{called_names, free_names, naming}
use Rattle.kube_cel_analysis.proofs.laws.each_tree_has_its_names.Goals as goal

pub returns-clause-called : goal.returns-clause-called
returns-clause-called c = called_names

pub returns-clause-free : goal.returns-clause-free
returns-clause-free c = free_names

pub returns-clause-naming : goal.returns-clause-naming
returns-clause-naming c = naming
