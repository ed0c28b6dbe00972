use Rattle.cel_demand.proofs.Read.{meaning_reads}
use Rattle.cel_demand.proofs.laws.meaning_depends_on_what_is_read.Goals as goal

pub returns : goal.returns
returns c = meaning_reads
