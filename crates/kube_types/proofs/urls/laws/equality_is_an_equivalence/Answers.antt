use Rattle.kube_types.specs.Url.Equality.{same_url_equiv}
use Rattle.kube_types.proofs.urls.laws.equality_is_an_equivalence.Goals as goal

pub returns : goal.returns
returns c = same_url_equiv
