use Rattle.std.proofs.Common.{◌≡◌, ◌+◌, ◌*◌, ◌^◌, ◌<◌, true, length, drop}
use Rattle.std.specs.Str.{all_ascii_digits}
use Rattle.cel_value_times.specs.Digits.{number}
use Rattle.cel_value_times.proofs.fronts.number.Given as goal

abbrev pub invariant-loop-digit : goal.invariant-loop-digit
invariant-loop-digit l = record {
  whole : l.n * 10 ^ length (drop l.digit-index l.digits) + number (drop l.digit-index l.digits) ≡ number l.digits;
  fits : l.n < 2 ^ 64;
  rest : all_ascii_digits (drop l.digit-index l.digits) ≡ true;
}
