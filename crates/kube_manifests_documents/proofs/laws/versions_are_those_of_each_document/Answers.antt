use Rattle.kube_manifests_documents.proofs.Listed.{versions_listed}
use Rattle.kube_manifests_documents.proofs.laws.versions_are_those_of_each_document.Goals as goal

pub returns : goal.returns
returns c = versions_listed
