use Rattle.kube_manifests.specs.Sets.{set_view}
use Rattle.kubecel_check.specs.Definitions.{IsSetOf, passed_over}
use Rattle.kubecel_check.specs.Judgements.{AreUsable, passed_over_item}
use Rattle.kubecel_check.specs.Objects.{AreCompared, AreDefined, AreSome, holds_object}
use Rattle.kubecel_io.specs.Objects.{all_objects}
use Rattle.kubecel_io.specs.Subjects.{subject_view}
use Rattle.kubecel_report.specs.Items.{item_view}
use Rattle.kubecel_cli.proofs.Checking.{judged_so}
use Rattle.kubecel_cli.proofs.check.judged.Goals as goal
use Rattle.kubecel_cli.specs.Commands.{check_view}
use Rattle.kubecel_cli.specs.Runs.{AreBehind, AreJudgedBySet, UnlessAny, all_unread}
use Rattle.std.proofs.Common.{◌≡◌, true, map, subst, ap, ◌∙◌}
use Rattle.std.specs.List.{list_all}

pub returns : goal.returns
returns g c = λ none.
    let asked = check_view c.args.check in
    let ignores = asked.ignores_missing in
    let set = c.in_ok-set.set in
    let crds = map subject_view c.args.crds.now in
    let definitions = c.in_ok-definitions.definitions.items in
    let earlier = c.in_ok-earlier.earlier.items in
    let subjects = c.in_ok-subjects.subjects.items in
    let indexed = c.in_ok-indexed.indexed.objects.now in
    let items = map item_view c.in_ok-judge_unless_any.field-0.items.items in
    let first = map passed_over_item (passed_over ignores crds) in
    let same_olds : indexed ≡ earlier = c.in_ok-indexed.ensures ∙ c.as_slice-4.ensures.value in
    let of = subst (λ ds. IsSetOf (map subject_view ds) set) c.as_slice.ensures.value c.in_ok-set.ensures in
    let some = subst (λ ss. AreSome asked.allows_none (map subject_view ss)) c.as_slice-2.ensures.value c.in_ok-refuse_unless_some.ensures in
    let held = subst (λ os. list_all (holds_object (set_view set) (map subject_view os)) asked.olds ≡ true) c.as_slice-3.ensures.value c.in_ok-refuse_unless_useful.ensures.held in
    let usable = subst (λ os. AreUsable ignores (set_view set) (map subject_view os)) c.as_slice-3.ensures.value c.in_ok-refuse_unless_useful.ensures.usable in
    let with_olds = subst (λ os. AreCompared asked.olds (map (λ f. f.value) (map subject_view os)) (map subject_view c.as_slice-5.result.now)) same_olds c.in_ok-refuse_unless_compared.ensures in
    let compared = subst (λ ss. AreCompared asked.olds (map (λ f. f.value) (map subject_view earlier)) (map subject_view ss)) c.as_slice-5.ensures.value with_olds in
    let defined = subst (λ ss. AreDefined ignores asked.allows_none (set_view set) (map subject_view ss)) c.as_slice-6.ensures.value c.in_ok-refuse_unless_defined.ensures in
    let unread : map item_view c.in_ok-unread.unread.items ≡ all_unread (all_objects (map subject_view definitions)) =
    c.in_ok-unread.ensures ∙ ap (λ ds. all_unread (all_objects (map subject_view ds))) c.as_slice-7.ensures.value in
    let by_olds = subst (λ os. UnlessAny (map item_view c.in_ok-unread.unread.items)
    (AreBehind (map item_view c.in_ok-passed.passed.items) (AreJudgedBySet ignores set (map (λ f. f.value) (map subject_view os)) (map subject_view c.as_slice-8.result.now))) items)
    same_olds (c.in_ok-judge_unless_any.ensures none) in
    let by_subjects = subst (λ ss. UnlessAny (map item_view c.in_ok-unread.unread.items)
    (AreBehind (map item_view c.in_ok-passed.passed.items) (AreJudgedBySet ignores set (map (λ f. f.value) (map subject_view earlier)) (map subject_view ss))) items)
    c.as_slice-8.ensures.value by_olds in
    let by_unread = subst (λ us. UnlessAny us
    (AreBehind (map item_view c.in_ok-passed.passed.items) (AreJudgedBySet ignores set (map (λ f. f.value) (map subject_view earlier)) (map subject_view subjects))) items)
    unread by_subjects in
    let judged = subst (λ ps. UnlessAny (all_unread (all_objects (map subject_view definitions)))
    (AreBehind ps (AreJudgedBySet ignores set (map (λ f. f.value) (map subject_view earlier)) (map subject_view subjects))) items)
    c.in_ok-passed.ensures by_unread in
    judged_so asked items crds (map subject_view c.args.olds.now) (map subject_view c.args.objects.now) set (map subject_view definitions) (map subject_view earlier) (map subject_view subjects)
    c.in_ok-definitions.ensures of c.in_ok-earlier.ensures c.in_ok-subjects.ensures some held usable compared defined judged
