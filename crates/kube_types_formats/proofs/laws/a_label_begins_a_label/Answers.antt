use Rattle.kube_types_formats.specs.Formats.{faults_of}
use Rattle.kube_types_formats.proofs.LabelLemmas.{label_is_prefix}
use Rattle.kube_types_formats.proofs.laws.a_label_begins_a_label.Goals as goal

pub returns : goal.returns
unfolding faults_of
returns c = label_is_prefix
