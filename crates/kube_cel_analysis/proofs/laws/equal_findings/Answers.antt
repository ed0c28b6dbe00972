use denote.Enum.Bare.{same_true, true_same}
use Rattle.kube_cel_analysis.proofs.Equals.{and_decides, texts_decide}
use Rattle.kube_cel_analysis.proofs.laws.equal_findings.Goals as goal
use Rattle.kube_cel_analysis.specs.contracts.finding.LintKind.{the_type}
use Rattle.std.proofs.Common.{rules, sym, ap, ◌∙◌}

pub returns : goal.returns
returns c =
    let a = c.args.a.now in
    let b = c.args.b.now in
    let decides = and_decides _ _ (texts_decide a.pointer b.pointer) (and_decides _ _ (texts_decide a.rule.value b.rule.value) (and_decides _ _
    (same_true the_type (search rules) a.kind b.kind, true_same the_type a.kind b.kind) (texts_decide a.message b.message))) in (
      λ h. let p = decides.0 (sym c.eq.ensures ∙ h) in (λ i. record { pointer = p.0 i; rule = p.1.0 i; kind = p.1.1.0 i; message = p.1.1.1 i }),
      λ h. c.eq.ensures ∙ decides.1 (ap (λ f. f.pointer) h, (ap (λ f. f.rule) h, (ap (λ f. f.kind) h, ap (λ f. f.message) h))),
    )
