use Rattle.kube_schema_values.specs.DefaultsAccessors.{raw}
use Rattle.kube_schema_values.proofs.Twice.{filled_twice}
use Rattle.kube_schema_values.proofs.filled_laws.filled_twice_is_filled_once.Goals as goal

pub returns : goal.returns
returns c = filled_twice raw
