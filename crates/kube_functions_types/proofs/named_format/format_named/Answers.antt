use Rattle.kube_functions_types.proofs.Named.{kind_found}
use Rattle.kube_functions_types.proofs.named_format.format_named.Goals as goal

pub returns : goal.returns
returns c = kind_found c.named.result c.args.name.now c.named.ensures
