use Rattle.kubecel_report.specs.Items.{item_view}
use Rattle.kubecel_report.specs.Output.{output_text}
use Rattle.kubecel_cli.proofs.Writes.{kept_behind}
use Rattle.kubecel_cli.proofs.report.write_all.Goals as goal
use Rattle.std.proofs.Common.{map}

pub returns : goal.returns
returns g c =
    let C = g.O.Write.contents in
    kept_behind (C c.args.out.now) (C c.write_items.new.out) (C c.flush.new.self) (output_text c.args.form.output (map item_view c.args.items.now)) c.flush.result
    c.in_ok-write_items.ensures c.flush.ensures.bytes
