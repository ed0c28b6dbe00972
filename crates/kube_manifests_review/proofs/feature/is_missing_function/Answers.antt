use Rattle.kube_manifests_review.proofs.feature.is_missing_function.Goals as goal
use Rattle.kube_manifests_review.specs.Features.{missing_functions}

pub returns : goal.returns
unfolding missing_functions
returns c = c.is_word.ensures
