use Rattle.kube_manifests_review.proofs.linted.is_about_macro.Goals as goal
use Rattle.kube_manifests_review.specs.Features.{two_variable_macros}

pub returns : goal.returns
unfolding two_variable_macros
returns c = c.in_ok-found.ensures
