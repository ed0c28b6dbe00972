use Rattle.kubecel_check.specs.Judgements.{passed_over_item}
use Rattle.kubecel_cli.proofs.check.items_of_passed.Given as goal
use Rattle.kubecel_io.specs.Subjects.{subject_view}
use Rattle.kubecel_report.specs.Items.{item_view}
use Rattle.std.proofs.Common.{◌≡◌, map, take}

abbrev pub invariant-loop-document : goal.invariant-loop-document
invariant-loop-document l = map item_view l.items.items ≡ map passed_over_item (map subject_view (take l.document-index l.passed))
