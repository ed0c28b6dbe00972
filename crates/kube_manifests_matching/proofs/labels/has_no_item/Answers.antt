use Rattle.kube_manifests_matching.proofs.Blanks.{no_item_is}
use Rattle.kube_manifests_matching.proofs.labels.has_no_item.Goals as goal
use Rattle.std.proofs.Common.{◌∙◌}

pub returns : goal.returns
returns c = c.is_empty.ensures ∙ no_item_is c.args.items.now
