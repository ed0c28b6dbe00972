use Rattle.std.proofs.Common.{◌≡◌, ◌++◌, map, string_bytes}
use Rattle.kube_cel_analysis.specs.Warnings.{remark_view, warning}
use Rattle.kube_cel_analysis.proofs.rule.add_remarks.Given as goal
use Rattle.kube_cel_analysis.specs.Findings.{finding_view, warning_finding}

-- the findings before, followed by those of the remarks so far
abbrev pub invariant-loop-remark : goal.invariant-loop-remark
invariant-loop-remark l =
    map finding_view l.found.items
    ≡ map finding_view l.fn.found.items ++ map (λ r. warning_finding l.pointer (warning (string_bytes l.rule.value) (remark_view r))) l.yielded
