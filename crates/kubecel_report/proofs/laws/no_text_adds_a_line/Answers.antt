use Rattle.kubecel_report.proofs.Counted.{report}
use Rattle.kubecel_report.proofs.laws.no_text_adds_a_line.Goals as goal

pub returns : goal.returns
returns c = report
