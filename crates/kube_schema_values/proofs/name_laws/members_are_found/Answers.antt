use Rattle.kube_schema_values.proofs.Found.{found_member}
use Rattle.kube_schema_values.proofs.name_laws.members_are_found.Goals as goal

pub returns : goal.returns
returns c = found_member
