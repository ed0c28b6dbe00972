use Rattle.kube_functions_strings.proofs.KeysApart.{keys_apart}
use Rattle.kube_functions_strings.proofs.laws.escaped_keys_differ.Goals as goal

pub returns : goal.returns
returns c = keys_apart
