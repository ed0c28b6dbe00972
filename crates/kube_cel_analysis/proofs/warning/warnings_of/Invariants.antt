use Rattle.std.proofs.Common.{◌≡◌, map}
use Rattle.kube_cel_analysis.proofs.warning.warnings_of.Given as goal
use Rattle.kube_cel_analysis.specs.Warnings.{remark_view, warning, warning_view}

abbrev pub invariant-loop-remark : goal.invariant-loop-remark
invariant-loop-remark l = map warning_view l.warnings.items ≡ map (warning l.rule) (map remark_view l.yielded)
