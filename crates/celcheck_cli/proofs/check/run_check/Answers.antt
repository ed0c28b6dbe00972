use Rattle.celcheck_cli.proofs.check.run_check.Goals as goal
use Rattle.celcheck_cli.proofs.Reports.{errors_reported}
use Rattle.celcheck_cli.specs.Runs.{IsAnswered}
use Rattle.celcheck_cli.specs.Words.{named_view}
use Rattle.kube_cel.specs.ErrorLists.{errors_in}
use Rattle.kube_cel.specs.Texts.{errors_text}
use Rattle.std.proofs.Common.{◌++◌, ◌∷◌, []}
use Rattle.std.specs.Io.KnownBytes.{Appends}

pub returns-clause-failed : goal.returns-clause-failed
returns-clause-failed g c = λ one.
    errors_reported (IsAnswered g.S.Sources.reads c.args.files.now (named_view c.args.named) c.errors_of-validation_of.new.files)
    (λ e. Appends (g.O.Write.contents c.args.out.now) (g.O.Write.contents c.report_errors.new.out) (errors_text (errors_in e) ++ 10 ∷ []))
    c.errors_of-validation_of.result c.errors_of-validation_of.ensures (c.report_errors.ensures.failed one)
