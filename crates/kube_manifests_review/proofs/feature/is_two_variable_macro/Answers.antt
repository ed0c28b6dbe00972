use Rattle.kube_manifests_review.proofs.feature.is_two_variable_macro.Goals as goal
use Rattle.kube_manifests_review.specs.Features.{two_variable_macros}

pub returns : goal.returns
unfolding two_variable_macros
returns c = c.is_word.ensures
