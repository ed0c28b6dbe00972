use Rattle.kube_types_formats.proofs.KindLemmas.{names_apart}
use Rattle.kube_types_formats.proofs.laws.names_distinguish_kinds.Goals as goal

pub returns : goal.returns
returns c = names_apart
