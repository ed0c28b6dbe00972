use Rattle.std.proofs.Common.{◌≡◌, ◌∙◌, sym, subst}
use Rattle.std.specs.Int.{w64, cast_unsigned, cast_signed}
use Rattle.std.proofs.lemmas.Int.{to_z-of_z}
use Rattle.cel_value.specs.Data.{int}
use Rattle.cel_semantics.specs.Arithmetic.{quotient_of}
use Rattle.cel_semantics.proofs.Numbers.{quotient_checked}
use Rattle.cel_semantics.proofs.arithmetic.divide_ints.Goals as goal

pub returns-else-n-eq0 : goal.returns-else-n-eq0
returns-else-n-eq0 c =
    let nonzero = subst (λ n. cast_unsigned w64 n ≡ 0 → ⊥) (sym (to_z-of_z w64 c.args.n c.ranges.n)) c.if-n-eq0.false in
    c.checked_int.ensures ∙ quotient_checked _ (cast_signed w64 (cast_unsigned w64 c.args.m)) (cast_signed w64 (cast_unsigned w64 c.args.n)) nonzero c.checked_div.ensures
    ∙ (λ i. quotient_of (int (to_z-of_z w64 c.args.m c.ranges.m i)) (int (to_z-of_z w64 c.args.n c.ranges.n i)))
