use Rattle.std.proofs.Common.{◌∙◌}
use Rattle.kube_functions_strings.proofs.Joining.{join-lent}
use Rattle.kube_functions_strings.proofs.joins.joined.Goals as goal

pub returns : goal.returns
returns c = c.in_ok-text.ensures.ok ∙ join-lent c.args.between.now c.args.texts.now
