use Rattle.std.proofs.Common.{arith, rules}
use Rattle.std.proofs.lemmas.Grind.{common_steps}
use Rattle.std.specs.Net.Text.{hex}
use Rattle.kube_types_address.proofs.canonical.strip_group.Goals as goal

pub returns : goal.returns
unfolding hex
returns c = first_of (search rules, grind (arith, common_steps))
