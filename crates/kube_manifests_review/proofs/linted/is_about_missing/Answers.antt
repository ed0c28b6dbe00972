use Rattle.kube_manifests_review.proofs.linted.is_about_missing.Goals as goal
use Rattle.kube_manifests_review.specs.Features.{missing_functions}

pub returns : goal.returns
unfolding missing_functions
returns c = c.in_ok-found.ensures
