use Rattle.kube_manifests_matching.proofs.Blanks.{no_member_is}
use Rattle.kube_manifests_matching.proofs.labels.has_no_member.Goals as goal
use Rattle.std.proofs.Common.{◌==◌, ap, ◌∙◌}

pub returns : goal.returns
returns c = ap (λ n. n == 0) c.len.ensures.len ∙ no_member_is c.args.members.now.entries
