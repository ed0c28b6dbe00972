use Rattle.std.proofs.Common.{◌<◌, ◌^◌, length, sym, ◌∙◌, ap, arith}
use Rattle.std.specs.Fmt.{decimal}
use Rattle.kube_types.proofs.Quantity.Lengths.{length_of_zero, length_is}
use Rattle.kube_types.proofs.quantities.printing.printed_len.Goals as goal

pub returns-then-number-eq0 : goal.returns-then-number-eq0
returns-then-number-eq0 c = sym (ap (λ n. length (decimal n)) c.if-number-eq0.true ∙ length_of_zero)

pub returns-else-number-eq0 : goal.returns-else-number-eq0
returns-else-number-eq0 c =
    let bound : c.args.number < 2 ^ 128 = omega arith in
    sym (length_is c.args.number c.ilog10.result bound c.ilog10.ensures.power_le c.ilog10.ensures.next_power_gt)
