use Rattle.std.proofs.Common.{◌≡◌, ◌<◌, drop}
use Rattle.cel_value_times.specs.Digits.{cut_part}
use Rattle.cel_value_times.proofs.fronts.cut_part.Given as goal

abbrev pub invariant-loop-place : goal.invariant-loop-place
invariant-loop-place l = record {
  value : l.part ≡ cut_part l.parts (drop l.place l.digits);
  below : l.part < l.parts;
}
