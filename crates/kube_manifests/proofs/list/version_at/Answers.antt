use Rattle.kube_manifests_texts.proofs.Firsts.{lent_at}
use Rattle.kube_manifests.proofs.list.version_at.Goals as goal
use Rattle.kube_manifests.specs.Lists.{version_view}

pub returns : goal.returns
returns c = lent_at version_view c.args.versions.now c.args.position _ c.get.ensures.lookup
