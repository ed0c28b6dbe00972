use Rattle.kube_types_formats.specs.Formats.{faults_of}
use Rattle.kube_types_formats.proofs.LabelLemmas.{letter_label_is_label}
use Rattle.kube_types_formats.proofs.laws.a_label_of_rfc_1035_is_one_of_rfc_1123.Goals as goal

pub returns : goal.returns
unfolding faults_of
returns c = letter_label_is_label
