use Rattle.kube_functions_strings.proofs.Decoded.{decodes}
use Rattle.kube_functions_strings.proofs.laws.decoding_undoes_encoding.Goals as goal

pub returns : goal.returns
returns c = decodes
