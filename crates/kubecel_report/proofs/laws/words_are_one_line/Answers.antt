use Rattle.kubecel_report.proofs.Counted.{line_said}
use Rattle.kubecel_report.proofs.laws.words_are_one_line.Goals as goal

pub returns : goal.returns
returns c = line_said
