use denote.Enum.Bare.{same_true, true_same}
use Rattle.kube_cel_analysis.proofs.Equals.{and_decides, texts_decide}
use Rattle.kube_cel_analysis.proofs.laws.equal_warnings.Goals as goal
use Rattle.kube_cel_analysis.specs.contracts.warning.WarningKind.{the_type}
use Rattle.std.proofs.Common.{rules, sym, ap, ◌∙◌}

pub returns : goal.returns
returns c =
    let a = c.args.a.now in
    let b = c.args.b.now in
    let decides = and_decides _ _ (texts_decide a.rule b.rule) (and_decides _ _ (texts_decide a.message b.message) (same_true the_type (search rules) a.kind b.kind, true_same the_type a.kind b.kind)) in (
      λ h. let p = decides.0 (sym c.eq.ensures ∙ h) in (λ i. record { rule = p.0 i; message = p.1.0 i; kind = p.1.1 i }),
      λ h. c.eq.ensures ∙ decides.1 (ap (λ w. w.rule) h, (ap (λ w. w.message) h, ap (λ w. w.kind) h)),
    )
