use Rattle.kube_cel_vap.proofs.Equals.{resources_decide}
use Rattle.kube_cel_vap.proofs.laws.equal_resources.Goals as goal
use Rattle.std.proofs.Common.{sym, ◌∙◌}

pub returns : goal.returns
returns c =
    let decides = resources_decide c.args.a.now c.args.b.now in
    (λ h. decides.0 (sym c.eq.ensures ∙ h), λ h. c.eq.ensures ∙ decides.1 h)
