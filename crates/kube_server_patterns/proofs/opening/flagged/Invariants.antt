use Rattle.std.proofs.Common.{◌≡◌, drop, true}
use Rattle.kube_server_patterns.specs.Openings.{flagged_from}
use Rattle.kube_server_patterns.proofs.opening.flagged.Given as goal

abbrev pub invariant-loop-i : goal.invariant-loop-i
invariant-loop-i l =
    flagged_from l.letters (drop l.i l.text) ≡ flagged_from (record { flags = l.fn.flags; sets = true; is_complete = true }) l.text
