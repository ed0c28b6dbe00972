use Rattle.kube_manifests.proofs.Found.{finds_nothing}
use Rattle.kube_manifests.proofs.laws.no_errors_only_where_a_schema_finds_none.Goals as goal

pub returns : goal.returns
returns c = finds_nothing
