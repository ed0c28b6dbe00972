use Rattle.kubecel_io.proofs.fault.too_deep_at.Given as goal
use Rattle.kubecel_io.specs.Faults.{is_deep, passes_depth}
use Rattle.std.proofs.Common.{◌≡◌, ◌≤◌, drop}

abbrev pub invariant-loop-offset : goal.invariant-loop-offset
invariant-loop-offset l = (l.depth ≤ 127) × (is_deep l.document ≡ passes_depth l.mode l.depth (drop l.offset l.document))
