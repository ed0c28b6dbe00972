use Rattle.std.proofs.Common.{◌≡◌, ◌++◌, map, drop, string_bytes}
use Rattle.cel_syntax.specs.Names.{names_of}
use Rattle.kube_cel_analysis.proofs.rule.add_names.Given as goal
use Rattle.kube_cel_analysis.specs.Findings.{finding_view, names_findings}

-- the findings so far, followed by those of the names that are left
abbrev pub invariant-loop-name : goal.invariant-loop-name
invariant-loop-name l =
    map finding_view l.found.items ++ names_findings l.pointer (string_bytes l.rule.value) (names_of (drop l.name-index l.names))
    ≡ map finding_view l.initial.found.items ++ names_findings l.pointer (string_bytes l.rule.value) (names_of l.names)
