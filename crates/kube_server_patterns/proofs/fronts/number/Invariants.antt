use Rattle.std.proofs.Common.{◌≡◌, ◌≤◌, drop}
use Rattle.kube_server_patterns.specs.Fronts.{number_from}
use Rattle.kube_server_patterns.proofs.fronts.number.Given as goal

abbrev pub invariant-loop-c : goal.invariant-loop-c
invariant-loop-c l = record {
  same : number_from l.radix l.limit l.n (drop l.c-index l.digits) ≡ number_from l.radix l.limit 0 l.digits;
  within : l.n ≤ l.limit;
}
