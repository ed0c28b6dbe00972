use Rattle.std.proofs.Common.{◌≡◌, drop, None}
use Rattle.kube_types_formats.specs.Offsets.{last_offset}
use Rattle.kube_types_formats.proofs.offsets.last_offset.Given as goal

abbrev pub invariant-loop-byte_offset : goal.invariant-loop-byte_offset
invariant-loop-byte_offset l = last_offset l.marks (drop l.byte_offset l.text) ≡ None
