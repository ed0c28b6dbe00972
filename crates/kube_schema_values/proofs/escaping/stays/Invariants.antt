use Rattle.std.proofs.Common.{ℕ, ◌<◌, get_or}
use Rattle.kube_schema_values.proofs.Escapes.{IsPlain}
use Rattle.kube_schema_values.proofs.escaping.stays.Given as goal

abbrev pub invariant-loop-byte : goal.invariant-loop-byte
invariant-loop-byte l = (k : ℕ) → k < l.byte-index → IsPlain (get_or l.byte-items k 0)
