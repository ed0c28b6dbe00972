use Rattle.std.proofs.Common.{◌∙◌, sym}
use Rattle.cel_stdlib.proofs.Counts.{item_count-length}
use Rattle.cel_stdlib.proofs.sizes.item_count.Goals as goal

pub returns : goal.returns
returns c = c.len.ensures ∙ sym (item_count-length c.args.items.now)
