use Rattle.kubecel_report.proofs.escape.escaped.Given as goal
use Rattle.kubecel_report.proofs.Escaped.{after_all}
use Rattle.kubecel_report.specs.Escapes.{at_start, escaped_rest}
use Rattle.std.proofs.Common.{◌≡◌, string_bytes}

abbrev pub invariant-loop-character : goal.invariant-loop-character
invariant-loop-character l = (string_bytes l.out ≡ escaped_rest l.escape at_start l.yielded) × (l.before ≡ after_all at_start l.yielded)
