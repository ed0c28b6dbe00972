use Rattle.kube_functions_format.proofs.Plain.{plain_text_stands}
use Rattle.kube_functions_format.proofs.laws.plain_text_stands.Goals as goal

pub returns : goal.returns
returns c = plain_text_stands
