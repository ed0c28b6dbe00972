use Rattle.kube_functions_types.proofs.Named.{kind_found}
use Rattle.kube_server_functions.proofs.texts.named.Goals as goal

pub returns : goal.returns
returns c = kind_found c.named.result c.args.name.now c.named.ensures
