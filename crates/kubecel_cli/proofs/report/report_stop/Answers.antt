use Rattle.kubecel_io.specs.Stops.{stopped_text}
use Rattle.kubecel_cli.proofs.Writes.{kept_behind}
use Rattle.kubecel_cli.proofs.report.report_stop.Goals as goal

pub returns : goal.returns
returns g c =
    let C = g.O.Write.contents in
    kept_behind (C c.args.out.now) (C c.write_stopped.new.out) (C c.flush.new.self) (stopped_text c.args.form.output c.args.stop.now) c.flush.result
    c.in_ok-write_stopped.ensures c.flush.ensures.bytes
