use Rattle.kube_types.proofs.Quantity.Digits.{leading_are_digits}
use Rattle.kube_types.proofs.quantities.reading.exponent.Goals as goal

pub digits_number-requires : goal.digits_number-requires
digits_number-requires c = rw c.split_digits.ensures.digits (leading_are_digits c.split_sign-negative.result.1.now)
