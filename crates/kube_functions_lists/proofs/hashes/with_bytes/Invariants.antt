use Rattle.std.proofs.Common.{◌≡◌, drop}
use Rattle.kube_functions_lists.specs.Hashes.{with_bytes}
use Rattle.kube_functions_lists.proofs.hashes.with_bytes.Given as goal

abbrev pub invariant-loop-byte : goal.invariant-loop-byte
invariant-loop-byte l = with_bytes l.hash l.bytes ≡ with_bytes l.mixture (drop l.byte-index l.bytes)
