use Rattle.kube_schema_values.specs.DefaultsAccessors.{raw}
use Rattle.kube_schema_values.proofs.Keeping.{filled_keeps}
use Rattle.kube_schema_values.proofs.filled_laws.what_is_there_stays.Goals as goal

pub returns : goal.returns
returns c = filled_keeps raw
