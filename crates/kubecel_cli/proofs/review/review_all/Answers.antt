use Rattle.kubecel_cli.proofs.Judging.{one_more_item}
use Rattle.kubecel_cli.proofs.review.review_all.Goals as goal
use Rattle.kubecel_cli.specs.Runs.{IsReviewed}
use Rattle.std.proofs.Common.{◌<◌, length, arith}

pub loop-subject-preserved : goal.loop-subject-preserved
loop-subject-preserved c =
    let subjects = c.args.subjects.now in
    let below : c.loop-subject.subject-index < length subjects = omega arith in
    one_more_item IsReviewed subjects c.loop-subject.subject-index c.subject-item.result c.loop-subject.items.items c.push.new.self.items c.in_ok-review.field-0 below c.subject-item.is
    c.loop-subject.invariant c.in_ok-review.ensures c.in_ok-push.ensures.items
