use Rattle.cel_semantics.proofs.Items.{lent_item}
use Rattle.cel_stdlib.proofs.dispatch.nth.Goals as goal

pub returns : goal.returns
returns c = lent_item _ _ _ c.get.ensures.lookup
