use Rattle.std.proofs.Common.{◌∙◌}
use Rattle.cel_semantics.proofs.Numbers.{uint_difference_checked}
use Rattle.cel_semantics.proofs.arithmetic.subtract_uints.Goals as goal

pub returns : goal.returns
returns c = c.checked_uint.ensures ∙ uint_difference_checked _ c.args.m c.args.n c.checked_sub.ensures
