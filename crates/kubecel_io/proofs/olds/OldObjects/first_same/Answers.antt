use Rattle.kubecel_io.proofs.Indexed.{no_old_by_number, old_by_number, value_at}
use Rattle.kubecel_io.proofs.olds.OldObjects.first_same.Goals as goal
use Rattle.kubecel_io.specs.Index.{identity_text}
use Rattle.kubecel_io.specs.Objects.{identity_of, identity_view, is_same}
use Rattle.kubecel_io.specs.Subjects.{subject_view}
use Rattle.serde_json.specs.View.{view}
use Rattle.std.proofs.Common.{◌≡◌, map, true, subst, sym, ap, ◌∙◌}

pub returns-in_default : goal.returns-in_default
returns-in_default c =
    let subject = c.args.subject.now in
    let olds = map (λ f. f.value) (map subject_view c.args.self.now.objects.now) in
    let text = c.as_str.result.now in
    let same : text ≡ identity_text (identity_of (view subject.value.now)) = c.as_str.ensures.value ∙ c.in_ok-text.ensures ∙ ap identity_text subject.its_own in
    sym (no_old_by_number olds (view subject.value.now) text same (sym (c.args.self.now.indexed text) ∙ sym c.in_default.ensures.value))

pub returns-in-Some-get : goal.returns-in-Some-get
returns-in-Some-get c =
    let subject = c.args.subject.now in
    let old = c.in-Some-get.old.now in
    let number = c.in-Some.number.now in
    let objects = c.args.self.now.objects.now in
    let olds = map (λ f. f.value) (map subject_view objects) in
    let text = c.as_str.result.now in
    let same : text ≡ identity_text (identity_of (view subject.value.now)) = c.as_str.ensures.value ∙ c.in_ok-text.ensures ∙ ap identity_text subject.its_own in
    let alike : is_same (identity_view old.identity) (identity_view subject.identity) ≡ true = sym c.is_same.ensures ∙ c.if-is_same.true in
    let of_subject = subst (λ i. is_same (identity_view old.identity) i ≡ true) subject.its_own alike in
    let of_both = subst (λ i. is_same i (identity_of (view subject.value.now)) ≡ true) old.its_own of_subject in
    sym (old_by_number olds (view subject.value.now) (view old.value.now) text number same (sym (c.args.self.now.indexed text) ∙ sym c.in-Some.ensures.value)
    (value_at objects number old c.in-Some-get.ensures.lookup.3.0 c.in-Some-get.ensures.lookup.1) of_both)
