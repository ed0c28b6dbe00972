use Rattle.kube_manifests_documents.specs.Policies.{item_view}
use Rattle.kube_manifests_policies.proofs.Labels.{seen_alike}
use Rattle.kube_manifests_policies.proofs.refusals.all_names.Goals as goal
use Rattle.std.proofs.Common.{map}

pub returns : goal.returns
returns c = seen_alike c.args.policy.now.has_params c.args.labels.now (map item_view c.args.policy.now.variables.items) c.requires
