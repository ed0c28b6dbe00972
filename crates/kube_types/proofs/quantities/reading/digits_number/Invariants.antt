use Rattle.std.proofs.Common.{◌≡◌, drop}
use Rattle.std.specs.Str.Parse.{digits_value_after}
use Rattle.kube_types.proofs.quantities.reading.digits_number.Given as goal

abbrev pub invariant-loop-digit : goal.invariant-loop-digit
invariant-loop-digit l =
    digits_value_after 10 l.number (drop l.digit-index l.digits) ≡ digits_value_after 10 l.fn.start l.digits
