use denote.Enum.Bare.{same_true, true_same}
use Rattle.kube_cel_walk.proofs.Equals.{and_decides, texts_decide, reasons_decide}
use Rattle.kube_cel_walk.proofs.laws.equal_by_five_fields.Goals as goal
use Rattle.kube_cel_walk.specs.contracts.error.ErrorKind.{the_type}
use Rattle.std.proofs.Common.{rules, sym, ◌∙◌}

pub returns : goal.returns
returns c =
    let a = c.args.a.now in
    let b = c.args.b.now in
    let decides = and_decides _ _ (texts_decide a.rule b.rule) (and_decides _ _ (texts_decide a.message b.message) (and_decides _ _ (texts_decide a.field_path b.field_path)
    (and_decides _ _ (reasons_decide a.reason b.reason) (same_true the_type (search rules) a.kind b.kind, true_same the_type a.kind b.kind)))) in (
      λ h. let p = decides.0 (sym c.eq.ensures ∙ h) in record { rule = p.0; message = p.1.0; field_path = p.1.1.0; reason = p.1.1.1.0; kind = p.1.1.1.1 },
      λ h. c.eq.ensures ∙ decides.1 (h.rule, (h.message, (h.field_path, (h.reason, h.kind)))),
    )
