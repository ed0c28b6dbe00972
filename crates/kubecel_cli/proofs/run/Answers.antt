use Rattle.kubecel_report.specs.Output.{output_text}
use Rattle.kubecel_cli.proofs.Judging.{reported_so}
use Rattle.kubecel_cli.proofs.run.Goals as goal
use Rattle.kubecel_cli.specs.Commands.{command_view}
use Rattle.kubecel_cli.specs.Runs.{AreFound}
use Rattle.std.specs.Io.KnownBytes.{Appends}

pub returns-clause-reported : goal.returns-clause-reported
returns-clause-reported g c = λ small.
    reported_so (AreFound g.S.Sources.reads c.args.files.now (command_view c.args.command) c.found_by-found.new.files) c.report_found.result
    (λ items. Appends (g.O.Write.contents c.args.out.now) (g.O.Write.contents c.report_found.new.out) (output_text c.args.form.output items))
    c.found_by-found.result c.found_by-found.ensures (c.report_found.ensures.reported small)
