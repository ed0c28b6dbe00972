use Rattle.kube_cel_analysis.proofs.Unknown.{no_form, reported}
use Rattle.kube_cel_analysis.proofs.laws.reported_names_have_no_form.Goals as goal

pub returns-clause-reported : goal.returns-clause-reported
returns-clause-reported c = no_form

pub returns-clause-others : goal.returns-clause-others
returns-clause-others c = reported
