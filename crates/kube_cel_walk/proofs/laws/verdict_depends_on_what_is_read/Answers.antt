use Rattle.kube_cel_walk.proofs.ReadVerdicts.{verdict_reads}
use Rattle.kube_cel_walk.proofs.laws.verdict_depends_on_what_is_read.Goals as goal

pub returns : goal.returns
returns g c = verdict_reads
