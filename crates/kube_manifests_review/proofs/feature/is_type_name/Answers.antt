use Rattle.kube_manifests_review.proofs.feature.is_type_name.Goals as goal
use Rattle.kube_manifests_review.specs.Features.{type_names}

pub returns : goal.returns
unfolding type_names
returns c = c.is_word.ensures
