use Rattle.kube_server_laws.proofs.Members.{optional_field, optional_field_of_no_map}
use Rattle.kube_server_laws.proofs.laws.optional_field.Goals as goal

pub returns : goal.returns
returns c = record { of_map = optional_field; of_other = optional_field_of_no_map }
