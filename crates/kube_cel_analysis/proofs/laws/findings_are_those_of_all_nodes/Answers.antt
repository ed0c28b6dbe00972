use Rattle.kube_cel_analysis.proofs.Nodes.{schema_found}
use Rattle.kube_cel_analysis.proofs.laws.findings_are_those_of_all_nodes.Goals as goal

pub returns : goal.returns
returns g c = λ names. schema_found names c.args.schema.now
