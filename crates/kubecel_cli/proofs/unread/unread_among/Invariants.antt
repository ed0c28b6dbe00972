use Rattle.kubecel_cli.proofs.unread.unread_among.Given as goal
use Rattle.kubecel_cli.specs.Runs.{all_unread}
use Rattle.kubecel_report.specs.Items.{item_view}
use Rattle.kubecel_io.specs.Subjects.{subject_view}
use Rattle.std.proofs.Common.{◌≡◌, map, take}

abbrev pub invariant-loop-definition : goal.invariant-loop-definition
invariant-loop-definition l = map item_view l.items.items ≡ all_unread (map subject_view (take l.definition-index l.definitions))
