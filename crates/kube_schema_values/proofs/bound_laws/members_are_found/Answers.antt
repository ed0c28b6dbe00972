use Rattle.kube_schema_values.specs.Conversion.{to_cel, raw}
use Rattle.kube_schema_values.proofs.FoundMembers.{found_member}
use Rattle.kube_schema_values.proofs.bound_laws.members_are_found.Goals as goal

pub returns : goal.returns
returns c = λ left schema members name. found_member raw (to_cel raw left) schema name members
