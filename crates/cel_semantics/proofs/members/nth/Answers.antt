use Rattle.std.proofs.Common.{ap, ◌∙◌}
use Rattle.cel_semantics.specs.Members.{nth_item}
use Rattle.cel_semantics.proofs.Items.{lent_item}
use Rattle.cel_semantics.proofs.members.nth.Goals as goal

pub returns : goal.returns
returns c = lent_item _ _ _ c.get.ensures.lookup ∙ ap (nth_item c.args.position) c.as_slice.ensures
