use Rattle.kube_cel_walk.proofs.EqualLists.{lists_decide}
use Rattle.kube_cel_walk.proofs.laws.equal_lists.Goals as goal
use Rattle.kube_cel_walk.specs.ErrorLists.{errors_in}
use Rattle.std.proofs.Common.{sym, ◌∙◌}

pub returns : goal.returns
returns c =
    let decides = lists_decide (errors_in c.args.a.now) (errors_in c.args.b.now) in
    (λ h. decides.0 (sym c.eq.ensures ∙ h), λ h. c.eq.ensures ∙ decides.1 h)
