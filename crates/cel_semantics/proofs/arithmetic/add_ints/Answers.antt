use Rattle.std.proofs.Common.{◌∙◌, ◌+ℤ◌}
use Rattle.std.specs.Int.{w64}
use Rattle.std.proofs.lemmas.Int.{to_z-of_z}
use Rattle.cel_semantics.specs.Arithmetic.{int_or_overflow}
use Rattle.cel_semantics.proofs.Numbers.{int_checked}
use Rattle.cel_semantics.proofs.arithmetic.add_ints.Goals as goal

pub returns : goal.returns
returns c =
    c.checked_int.ensures ∙ int_checked _ _ c.checked_add.ensures
    ∙ (λ i. int_or_overflow (to_z-of_z w64 c.args.m c.ranges.m i +ℤ to_z-of_z w64 c.args.n c.ranges.n i))
