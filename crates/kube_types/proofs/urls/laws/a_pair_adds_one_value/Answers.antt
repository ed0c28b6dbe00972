use Rattle.kube_types.proofs.Url.Queries.{values_more}
use Rattle.kube_types.proofs.urls.laws.a_pair_adds_one_value.Goals as goal

pub returns : goal.returns
returns c = values_more
