use Rattle.kube_functions_lists.proofs.Occurrences.{same_members}
use Rattle.kube_functions_lists.proofs.laws.equivalent_lists_have_the_same_members.Goals as goal

pub returns : goal.returns
returns c = same_members
