use Rattle.kubecel_io.proofs.Marks.{mark_off, no_mark}
use Rattle.kubecel_io.proofs.sources.without_mark.Goals as goal

pub returns-in-Some : goal.returns-in-Some
returns-in-Some c = mark_off c.args.text.now c.in-Some.rest.now c.in-Some.ensures.cases

pub returns-in-None : goal.returns-in-None
returns-in-None c = no_mark c.args.text.now c.in-None.ensures.cases
