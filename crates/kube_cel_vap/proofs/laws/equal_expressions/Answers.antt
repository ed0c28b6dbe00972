use Rattle.kube_cel_vap.proofs.Equals.{and_decides, options_decide, texts_decide}
use Rattle.kube_cel_vap.proofs.laws.equal_expressions.Goals as goal
use Rattle.std.proofs.Common.{sym, ap, ◌∙◌}

pub returns : goal.returns
returns c =
    let a = c.args.a.now in
    let b = c.args.b.now in
    let decides = and_decides _ _ (texts_decide a.expression b.expression) (and_decides _ _ (options_decide a.message b.message) (options_decide a.message_expression b.message_expression)) in (
      λ h. let p = decides.0 (sym c.eq.ensures ∙ h) in (λ i. record { expression = p.0 i; message = p.1.0 i; message_expression = p.1.1 i }),
      λ h. c.eq.ensures ∙ decides.1 (ap (λ x. x.expression) h, (ap (λ x. x.message) h, ap (λ x. x.message_expression) h)),
    )
