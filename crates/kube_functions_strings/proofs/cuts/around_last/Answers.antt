use Rattle.kube_functions_strings.proofs.Occurring.{around_last_found}
use Rattle.kube_functions_strings.proofs.cuts.around_last.Goals as goal

pub returns : goal.returns
returns c = around_last_found c.args.text.now c.args.part.now c.rsplit_once.result c.utf8.text c.utf8.part c.rsplit_once.ensures.cases
