use Rattle.std.proofs.Common.{◌≡◌, ◌++◌, map, drop}
use Rattle.cel_syntax.specs.Names.{names_of}
use Rattle.kube_cel_analysis.specs.Scopes.{names_remarks}
use Rattle.kube_cel_analysis.specs.Warnings.{remark_view}
use Rattle.kube_cel_analysis.proofs.scope.add_names.Given as goal

-- the remarks so far, followed by those of the names that are left
abbrev pub invariant-loop-name : goal.invariant-loop-name
invariant-loop-name l =
    map remark_view l.remarks.items ++ names_remarks l.scope (names_of (drop l.name-index l.names))
    ≡ map remark_view l.initial.remarks.items ++ names_remarks l.scope (names_of l.names)
