use Rattle.kube_schema_values.proofs.Inverse.{escape-injective}
use Rattle.kube_schema_values.proofs.name_laws.escape_is_injective.Goals as goal

pub returns : goal.returns
returns c = escape-injective
