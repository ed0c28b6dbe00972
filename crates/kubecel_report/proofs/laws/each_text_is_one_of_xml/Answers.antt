use Rattle.kubecel_report.proofs.Seen.{of_xml}
use Rattle.kubecel_report.proofs.laws.each_text_is_one_of_xml.Goals as goal

pub returns : goal.returns
returns c = of_xml
