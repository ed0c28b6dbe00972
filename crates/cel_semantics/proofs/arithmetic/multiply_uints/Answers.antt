use Rattle.std.proofs.Common.{◌∙◌}
use Rattle.cel_semantics.proofs.Numbers.{uint_checked}
use Rattle.cel_semantics.proofs.arithmetic.multiply_uints.Goals as goal

pub returns : goal.returns
returns c = c.checked_uint.ensures ∙ uint_checked _ _ c.checked_mul.ensures
