-- Trusted by the headline.
-- Functions on the bits of ints (documentation of CEL-Go, "Math": `math.bitAnd`,
-- `math.bitOr`, `math.bitXor`, `math.bitNot`, `math.bitShiftLeft`,
-- `math.bitShiftRight`). An int is its 64 bits in two's complement. Bits that
-- are shifted out are lost, and a shift to the right fills with the sign bit.
use Rattle.std.specs.Prelude.{ℕ, ℤ, pos, negsuc, List, codes, nat_lt, Option, Some, None, Ok, Err, if◌then◌else◌}
use Rattle.std.specs.Int.{w64, int_bit_and, int_bit_or, int_bit_xor, int_bit_not, int_shl, int_shr}
use Rattle.std.specs.Option.{option_map_or}
use Rattle.cel_value.specs.Data.{Data, int}
use Rattle.cel_value.specs.Parts.{int_in}
use Rattle.cel_value.specs.Faults.{Fault, no_overload, function_error}
use Rattle.cel_semantics.specs.Outcome.{Outcome}
use Rattle.kube_functions_lists.specs.Lists.{ints_in}

-- the result of a function with this name on two ints; other operands are an error
abbrev pub of_ints : List ℕ → (ℤ → ℤ → Outcome) → Data → Data → Outcome
of_ints name f v w = option_map_or (λ p. f p.0 p.1) (ints_in v w) (Err (no_overload name))

abbrev pub bit_and : Data → Data → Outcome
bit_and v w = of_ints (codes "math.bitAnd") (λ m n. Ok (int (int_bit_and w64 m n))) v w

abbrev pub bit_or : Data → Data → Outcome
bit_or v w = of_ints (codes "math.bitOr") (λ m n. Ok (int (int_bit_or w64 m n))) v w

abbrev pub bit_xor : Data → Data → Outcome
bit_xor v w = of_ints (codes "math.bitXor") (λ m n. Ok (int (int_bit_xor w64 m n))) v w

abbrev pub bit_not : Data → Outcome
bit_not v =
    option_map_or (λ n. Ok (int (int_bit_not w64 n))) (int_in v) (Err (no_overload (codes "math.bitNot")))

abbrev pub shift_fault : List ℕ → Fault
shift_fault name = function_error name (codes "shift amount must be between 0 and 63")

-- the number of places of a shift, or none unless it is from 0 to 63
abbrev pub places_in : ℤ → Option ℕ
places_in (pos n) = if nat_lt n 64 then Some n else None
places_in (negsuc n) = None

-- the result of a shift; `name` is the function's name in errors
abbrev pub shift_outcome : List ℕ → (ℕ → ℤ) → ℤ → Outcome
shift_outcome name f n = option_map_or (λ k. Ok (int (f k))) (places_in n) (Err (shift_fault name))

abbrev pub bit_shift_left : Data → Data → Outcome
bit_shift_left v w = of_ints (codes "math.bitShiftLeft")
    (λ m n. shift_outcome (codes "math.bitShiftLeft") (int_shl w64 m) n) v w

abbrev pub bit_shift_right : Data → Data → Outcome
bit_shift_right v w =
    of_ints (codes "math.bitShiftRight") (λ m n. shift_outcome (codes "math.bitShiftRight") (int_shr m) n) v w
