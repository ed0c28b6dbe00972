use Rattle.kube_schema_values.specs.Conversion.{to_cel, raw}
use Rattle.kube_schema_values.proofs.Fields.{found_in_object}
use Rattle.kube_schema_values.proofs.bound_laws.fields_are_found.Goals as goal

pub returns : goal.returns
unfolding raw
returns c = λ left schema members name. found_in_object raw (to_cel raw left) schema members name
