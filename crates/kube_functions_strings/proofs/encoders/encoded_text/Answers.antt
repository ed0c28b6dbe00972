use Rattle.kube_functions_strings.specs.Encoders.{encoded_text}
use Rattle.kube_functions_strings.proofs.encoders.encoded_text.Goals as goal

pub returns : goal.returns
unfolding encoded_text
returns c = c.encode.ensures.text
