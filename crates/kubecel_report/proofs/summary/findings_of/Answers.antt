use Rattle.kubecel_report.proofs.summary.findings_of.Goals as goal
use Rattle.kubecel_report.specs.Items.{finding_view}
use Rattle.std.proofs.Common.{◌∙◌, ap, length, sym}
use Rattle.std.proofs.lemmas.List.{length-map}

pub returns : goal.returns
returns c = ap length c.as_slice.ensures.value ∙ sym (length-map c.args.item.now.findings.items finding_view)
