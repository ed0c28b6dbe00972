use Rattle.kubecel_io.specs.Subjects.{subject_view}
use Rattle.kubecel_report.specs.Items.{item_view}
use Rattle.kubecel_cli.proofs.Judging.{behind_so}
use Rattle.kubecel_cli.proofs.check.judge_behind.Goals as goal
use Rattle.kubecel_cli.specs.Runs.{AreJudgedBySet}
use Rattle.std.proofs.Common.{map}

pub returns : goal.returns
returns g c =
    behind_so (map item_view c.args.passed.items)
    (AreJudgedBySet c.args.ignores_missing c.args.set.now (map (λ f. f.value) (map subject_view c.args.olds.now.objects.now)) (map subject_view c.args.subjects.now))
    c.in_ok-report.report c.in_ok-with_items_before.field-0 c.in_ok-with_items_before.ensures.items c.in_ok-with_items_before.ensures.fault c.in_ok-report.ensures
