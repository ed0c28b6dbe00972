use Rattle.kube_schema.proofs.Build.{marker_same}
use Rattle.kube_schema.proofs.keywords.marker_with.Goals as goal

pub returns-clause-keywords : goal.returns-clause-keywords
returns-clause-keywords c = marker_same _ c.in_ok-default.default _ c.in_ok-validations.ensures.rules c.in_ok-default.ensures
