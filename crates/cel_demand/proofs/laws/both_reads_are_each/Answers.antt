use Rattle.cel_demand.proofs.Named.{both_reads_alike}
use Rattle.cel_demand.proofs.laws.both_reads_are_each.Goals as goal

pub returns : goal.returns
returns c = both_reads_alike
