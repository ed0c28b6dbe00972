use Rattle.std.proofs.Common.{◌∙◌, sym}
use Rattle.cel_stdlib.proofs.Counts.{entry_count-length}
use Rattle.cel_stdlib.proofs.sizes.entry_count.Goals as goal

pub returns : goal.returns
returns c = c.len.ensures ∙ sym (entry_count-length c.args.entries.now)
