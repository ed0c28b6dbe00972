-- Trusted by the headline.
-- The answers of the functions on numbers (documentation of CEL-Go, "Math").
use Rattle.std.specs.Prelude.{ℕ, List, Option, Some, None, Err}
use Rattle.cel_value.specs.Data.{Data}
use Rattle.cel_value.specs.Faults.{no_overload}
use Rattle.cel_semantics.specs.Outcome.{Outcome}
use Rattle.kube_functions_lists.specs.Bits as bits
use Rattle.kube_functions_lists.specs.Math as math
use Rattle.kube_functions.specs.declared.libraries.math.MathFunction.{MathFunction}
use Rattle.kube_functions.specs.declared.libraries.math.MathFunction.TheVariants as function

-- the answer to a call with these operands, the receiver first,
-- and these arguments; `name` is the function's name in errors
abbrev pub answer : MathFunction → List ℕ → Option Data → Option Data → List Data → Outcome
answer function.Abs name (Some v) w args = math.abs v
answer function.BitAnd name (Some v) (Some w) args = bits.bit_and v w
answer function.BitNot name (Some v) w args = bits.bit_not v
answer function.BitOr name (Some v) (Some w) args = bits.bit_or v w
answer function.BitShiftLeft name (Some v) (Some w) args = bits.bit_shift_left v w
answer function.BitShiftRight name (Some v) (Some w) args = bits.bit_shift_right v w
answer function.BitXor name (Some v) (Some w) args = bits.bit_xor v w
answer function.Greatest name v w args = math.greatest args
answer function.Least name v w args = math.least args
answer function.Sign name (Some v) w args = math.sign v
answer f name None w args = Err (no_overload name)
answer f name v None args = Err (no_overload name)
