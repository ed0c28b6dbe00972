use Rattle.kube_cel_vap.proofs.Equals.{and_decides, options_decide, texts_decide}
use Rattle.kube_cel_vap.proofs.laws.equal_results.Goals as goal
use Rattle.std.proofs.Common.{sym, ap, ◌∙◌}
use Rattle.std.specs.Cmp.{booleans_Decides}

pub returns : goal.returns
returns c =
    let a = c.args.a.now in
    let b = c.args.b.now in
    let decides = and_decides _ _ (texts_decide a.expression b.expression) (and_decides _ _ (booleans_Decides a.passed b.passed) (options_decide a.message b.message)) in (
      λ h. let p = decides.0 (sym c.eq.ensures ∙ h) in (λ i. record { expression = p.0 i; passed = p.1.0 i; message = p.1.1 i }),
      λ h. c.eq.ensures ∙ decides.1 (ap (λ r. r.expression) h, (ap (λ r. r.passed) h, ap (λ r. r.message) h)),
    )
