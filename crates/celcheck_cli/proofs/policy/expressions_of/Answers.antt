use Rattle.celcheck_cli.proofs.Policies.{read_all, read_ends, read_on}
use Rattle.celcheck_cli.proofs.policy.expressions_of.Goals as goal
use Rattle.celcheck_cli.specs.Policies.{parts_view}
use Rattle.kube_cel.specs.Validations.{expression_view}
use Rattle.std.proofs.Common.{◌<◌, ◌≤◌, length, map, sym, ◌∙◌, arith}

pub returns-in-None : goal.returns-in-None
returns-in-None c =
    let below : c.loop-value.value-index < length c.args.values.now = omega arith in
    sym (c.loop-value.invariant ∙ read_ends c.args.values.now c.loop-value.value-index c.value-item.result (map expression_view c.loop-value.expressions.items) below c.value-item.is c.in-None.ensures)

pub loop-value-preserved : goal.loop-value-preserved
loop-value-preserved c =
    let below : c.loop-value.value-index < length c.args.values.now = omega arith in
    c.loop-value.invariant ∙ read_on c.args.values.now c.loop-value.value-index c.value-item.result c.loop-value.expressions.items c.push.new.self.items
    c.in_ok-expression_of-in-Some.field-0 (parts_view c.in-Some.parts) below c.value-item.is c.in-Some.ensures c.in_ok-expression_of-in-Some.ensures c.in_ok-push-in-Some.ensures.items

pub returns : goal.returns
returns c =
    let past : length c.args.values.now ≤ c.loop-value.value-index = omega arith in
    sym (c.loop-value.invariant ∙ read_all c.args.values.now c.loop-value.value-index (map expression_view c.loop-value.expressions.items) past)
