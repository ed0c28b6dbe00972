use Rattle.kube_manifests_review.proofs.part.member_part.Goals as goal
use Rattle.kube_manifests_review.specs.Stray.{member_part}
use Rattle.std.proofs.Common.{sym, ap, ◌∙◌}

pub returns-in-Validation : goal.returns-in-Validation
returns-in-Validation c = c.named_part-in-Validation.ensures ∙ sym (ap (λ p. member_part p c.args.key.now) c.in-Validation.is)
