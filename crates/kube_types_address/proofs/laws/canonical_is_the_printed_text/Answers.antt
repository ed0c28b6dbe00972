use Rattle.kube_types_address.proofs.Printing.{canonical}
use Rattle.kube_types_address.proofs.laws.canonical_is_the_printed_text.Goals as goal

pub returns : goal.returns
returns c = canonical
