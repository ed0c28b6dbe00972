use Rattle.kube_server_laws.proofs.Transforms.{transform_map_law}
use Rattle.kube_server_laws.proofs.laws.transform_map.Goals as goal

pub returns : goal.returns
returns c = transform_map_law
