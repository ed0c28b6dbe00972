use Rattle.kube_schema_values.specs.DefaultsAccessors.{raw}
use Rattle.kube_schema_values.proofs.Without.{all_stays}
use Rattle.kube_schema_values.proofs.filled_laws.without_defaults_all_stays.Goals as goal

pub returns : goal.returns
returns c = all_stays raw
