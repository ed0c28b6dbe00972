use Rattle.kubecel_report.proofs.Seen.{seen}
use Rattle.kubecel_report.proofs.laws.no_text_hides_a_character.Goals as goal

pub returns : goal.returns
returns c = seen
