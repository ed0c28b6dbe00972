use Rattle.kubecel_io.proofs.fault.place_behind.Given as goal
use Rattle.kubecel_io.specs.Faults.{column_behind, line_behind}
use Rattle.std.proofs.Common.{◌≡◌, take}

abbrev pub invariant-loop-byte : goal.invariant-loop-byte
invariant-loop-byte l = (l.line ≡ line_behind (take l.byte-index l.text)) × (l.column ≡ column_behind (take l.byte-index l.text))
