use Rattle.kube_manifests_policies.proofs.Passed.{all_was_judged}
use Rattle.kube_manifests_policies.proofs.laws.admitted_only_if_judged.Goals as goal

pub returns : goal.returns
returns c = all_was_judged
