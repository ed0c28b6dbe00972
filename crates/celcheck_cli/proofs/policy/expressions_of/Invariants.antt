use Rattle.celcheck_cli.proofs.Policies.{joined}
use Rattle.celcheck_cli.proofs.policy.expressions_of.Given as goal
use Rattle.celcheck_cli.specs.Policies.{expressions_in}
use Rattle.kube_cel.specs.Validations.{expression_view}
use Rattle.serde_json.specs.View.{items_view}
use Rattle.std.proofs.Common.{◌≡◌, map, drop}

abbrev pub invariant-loop-value : goal.invariant-loop-value
invariant-loop-value l = expressions_in (items_view l.values) ≡ joined (map expression_view l.expressions.items) (expressions_in (items_view (drop l.value-index l.values)))
