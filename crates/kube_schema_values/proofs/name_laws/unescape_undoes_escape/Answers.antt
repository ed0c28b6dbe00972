use Rattle.kube_schema_values.proofs.Inverse.{unescape-escape}
use Rattle.kube_schema_values.proofs.name_laws.unescape_undoes_escape.Goals as goal

pub returns : goal.returns
returns c = unescape-escape
