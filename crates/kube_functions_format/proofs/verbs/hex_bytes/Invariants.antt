use Rattle.std.proofs.Common.{◌≡◌, ◌++◌, string_bytes, drop}
use Rattle.kube_functions_format.specs.Verbs as spec
use Rattle.kube_functions_format.proofs.verbs.hex_bytes.Given as goal

abbrev pub invariant-loop-byte : goal.invariant-loop-byte
invariant-loop-byte l = spec.bytes_digits l.upper l.bytes ≡ string_bytes l.out ++ spec.bytes_digits l.upper (drop l.byte-index l.bytes)
