use Rattle.std.proofs.Common.{◌≡◌, ◌%◌, ◌<◌, ◌+ℤ◌, pos, sym, ◌∙◌, ap, rules, arith, to_z, of_z, FitsSigned}
use Rattle.std.proofs.lemmas.Int.{ints, to_z-of_z}
use Rattle.std.specs.Int.{w32, w128}
use Rattle.std.specs.Prelude.{unsigned_abs, Some}
use Rattle.kube_types.specs.Quantity.Sums.{decimal_at}
use Rattle.kube_types.proofs.Quantity.Forms.{held_zero, held_some, held_none, ends_normal}
use Rattle.kube_types.proofs.quantities.normal.normalised.Goals as goal

pub returns-then-mantissa-eq0 : goal.returns-then-mantissa-eq0
returns-then-mantissa-eq0 c =
    let none : c.args.mantissa ≡ pos 0 = omega (arith, ints) in
    sym (held_zero c.args.mantissa c.args.scale none)

pub invariant_of-result-in-Ok : goal.invariant_of-result-in-Ok
invariant_of-result-in-Ok c =
    let cut = c.reduced-mantissa in
    let r_fits : FitsSigned w128 cut.result.0 = search rules in
    let r_back = to_z-of_z w128 cut.result.0 r_fits in
    let some : 0 < unsigned_abs c.args.mantissa = omega (arith, ints) in
    let m_fits : FitsSigned w128 c.args.mantissa = c.ranges.mantissa in
    let last = simp to_z-of_z at cut.ensures.last_digit in
    record { normal = ends_normal (to_z w128 (of_z w128 cut.result.0)) (to_z w32 (of_z w32 c.in-Ok.scale)) (λ e. last some (ap (λ v. unsigned_abs v % 10) (sym r_back) ∙ e)) }

pub returns-in-Ok : goal.returns-in-Ok
returns-in-Ok c =
    let m = c.args.mantissa in
    let s = c.args.scale in
    let cut = c.reduced-mantissa in
    let m_fits : FitsSigned w128 m = c.ranges.mantissa in
    let positive : 0 < unsigned_abs m = omega (arith, ints) in
    let r_fits : FitsSigned w128 cut.result.0 = search rules in
    let r_back = to_z-of_z w128 cut.result.0 r_fits in
    let r = simp to_z-of_z at cut.ensures.value in
    let z = simp to_z-of_z at cut.ensures.zeros in
    let t_fits : FitsSigned w32 c.in-Ok.scale = search rules in
    let t_back = to_z-of_z w32 c.in-Ok.scale t_fits in
    let t : c.in-Ok.scale ≡ s +ℤ pos cut.result.1 = omega (arith, ints, c.in-Ok.ensures.1, c.from.ensures) in
    (λ i. Some (decimal_at (r_back i) (t_back i))) ∙ held_some m s cut.result.0 c.in-Ok.scale cut.result.1 positive r z t t_fits

pub returns-in-Err : goal.returns-in-Err
returns-in-Err c =
    let m = c.args.mantissa in
    let cut = c.reduced-mantissa in
    let m_fits : FitsSigned w128 m = c.ranges.mantissa in
    let positive : 0 < unsigned_abs m = omega (arith, ints) in
    let z = simp to_z-of_z at cut.ensures.zeros in
    held_none m c.args.scale cut.result.1 positive z (λ f. c.in-Err.ensures (omega (arith, ints, f, c.from.ensures)))
