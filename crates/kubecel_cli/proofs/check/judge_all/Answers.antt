use Rattle.cel_patterns.proofs.Books.{Extends-trans}
use Rattle.kubecel_check.specs.Judgements.{IsJudgedBy}
use Rattle.kubecel_io.specs.Subjects.{subject_view}
use Rattle.kubecel_cli.proofs.Judging.{judged_to_end, neither_left, neither_right, one_more_item}
use Rattle.kubecel_cli.proofs.check.judge_all.Goals as goal
use Rattle.std.proofs.Common.{◌<◌, ◌≤◌, length, map, arith, sym, ◌∙◌}

pub loop-subject-preserved : goal.loop-subject-preserved
loop-subject-preserved g c = λ none b later.
    let subjects = c.args.subjects.now in
    let below : c.loop-subject.subject-index < length subjects = omega arith in
    let neither = sym c.either-partly.ensures ∙ none in
    let so_far = neither_left c.loop-subject.partly c.in_ok-judged.judged.1 neither in
    let whole = neither_right c.loop-subject.partly c.in_ok-judged.judged.1 neither in
    let j = rw c.in_ok-old.ensures at c.in_ok-judged.ensures.judged in
    one_more_item (IsJudgedBy b c.args.ignores_missing c.args.set.now (map (λ f. f.value) (map subject_view c.args.olds.now.objects.now))) subjects c.loop-subject.subject-index c.subject-item.result
    c.loop-subject.items.items c.push.new.self.items c.in_ok-judged.judged.0 below c.subject-item.is (c.loop-subject.invariant so_far b (Extends-trans later c.judge.ensures.kept))
    (j.0, λ versions same. j.1 versions same b later, sym j.2 ∙ whole, j.3, j.4, j.5) c.in_ok-push.ensures.items

pub returns : goal.returns
returns g c = λ none.
    let subjects = c.args.subjects.now in
    let past : length subjects ≤ c.loop-subject.subject-index = omega arith in
    judged_to_end c.args.ignores_missing c.args.set.now (map (λ f. f.value) (map subject_view c.args.olds.now.objects.now)) subjects c.loop-subject.subject-index c.loop-subject.items.items
    c.loop-subject.book past (c.loop-subject.invariant (c.in_ok-fault_if.ensures none))
