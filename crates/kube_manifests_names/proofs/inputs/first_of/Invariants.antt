use Rattle.cel_syntax_ast.specs.Term.{term}
use Rattle.kube_manifests_names.proofs.inputs.first_of.Given as goal
use Rattle.kube_manifests_names.specs.Inputs.{first_asked}
use Rattle.std.proofs.Common.{◌≡◌, drop}

abbrev pub invariant-loop-input : goal.invariant-loop-input
invariant-loop-input l = first_asked l.inputs (term l.expr) ≡ first_asked (drop l.input-index l.inputs) (term l.expr)
