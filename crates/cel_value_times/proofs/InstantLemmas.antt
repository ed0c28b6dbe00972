-- A nanosecond in range has a second in range.
use Rattle.std.proofs.Common.{◌≡◌, ℕ, ◌<◌, ℤ, pos, ◌+ℤ◌, ◌*ℤ◌, arith}
use Rattle.std.proofs.lemmas.Int.{ints}
use Rattle.cel_value_times.specs.Ranges.{IsSecond, IsNanosecond, local_second, local_nanosecond}

pub second_in_range : (s : ℤ) (n : ℕ) (z : ℤ) → s *ℤ pos 1_000_000_000 +ℤ pos n ≡ z → n < 1_000_000_000 → IsNanosecond z → IsSecond s
second_in_range s n z e small h = (omega (arith, ints), omega (arith, ints))

pub local_in_range : (s : ℤ) (n : ℕ) (z offset : ℤ) → s *ℤ pos 1_000_000_000 +ℤ pos n ≡ z → n < 1_000_000_000 → IsNanosecond (local_nanosecond z offset) → IsSecond (local_second s offset)
local_in_range s n z offset e small h = (omega (arith, ints), omega (arith, ints))
