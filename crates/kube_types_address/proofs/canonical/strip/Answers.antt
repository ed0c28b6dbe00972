use Rattle.kube_types_address.proofs.Matches.{stripped}
use Rattle.kube_types_address.proofs.canonical.strip.Goals as goal

pub returns : goal.returns
returns c = stripped c.args.front.now c.args.text.now c.strip_prefix.result c.strip_prefix.ensures.cases
