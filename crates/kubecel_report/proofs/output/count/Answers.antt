use Rattle.kubecel_report.proofs.output.count.Goals as goal
use Rattle.kubecel_report.specs.Items.{item_view}
use Rattle.std.proofs.Common.{sym}
use Rattle.std.proofs.lemmas.List.{length-map}

pub returns : goal.returns
returns c = sym (length-map c.args.items.now item_view)
