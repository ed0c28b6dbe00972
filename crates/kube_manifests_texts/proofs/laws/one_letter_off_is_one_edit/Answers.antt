use Rattle.kube_manifests_texts.proofs.Edits.{edit_of, off_of}
use Rattle.kube_manifests_texts.proofs.laws.one_letter_off_is_one_edit.Goals as goal

pub returns-clause-edit : goal.returns-clause-edit
returns-clause-edit c = edit_of

pub returns-clause-off : goal.returns-clause-off
returns-clause-off c = off_of
