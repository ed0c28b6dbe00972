use Rattle.kubecel_cli.proofs.review.review_all.Given as goal
use Rattle.kubecel_io.specs.Subjects.{subject_view}
use Rattle.kubecel_report.specs.Items.{item_view}
use Rattle.kubecel_cli.specs.Runs.{AreItems, IsReviewed}
use Rattle.std.proofs.Common.{map, take}

abbrev pub invariant-loop-subject : goal.invariant-loop-subject
invariant-loop-subject l = AreItems IsReviewed (map subject_view (take l.subject-index l.subjects)) (map item_view l.items.items)
