use Rattle.std.proofs.Common.{arith, ◌<◌, length, take_all, ap, ◌∙◌}
use Rattle.cel_demand.specs.Places.{Entry}
use Rattle.cel_value.specs.declared.key.Key.TheVariants as key
use Rattle.kube_schema_parts.specs.Parts.{name_keys}
use Rattle.kube_schema_parts.proofs.Bound.{names_more}
use Rattle.kube_schema_parts.proofs.parts.member_names.Goals as goal

pub loop-member-preserved : goal.loop-member-preserved
loop-member-preserved c =
    let items = c.deref-member-items.result.now in
    let i = c.loop-member.member-index in
    let m : Entry = c.member-item.result in
    let lt : i < length items = omega (arith, c.loop-member-test.true) in
    c.in_ok-push.ensures.items ∙ names_more items i m c.loop-member.names.items _ lt c.member-item.is c.loop-member.invariant (ap key.String c.in_ok-clone.ensures.cases)

pub returns-clause-names : goal.returns-clause-names
returns-clause-names c =
    c.loop-member.invariant ∙ ap name_keys (take_all c.loop-member.member-index c.deref-member-items.result.now c.loop-member-test.false ∙ c.deref-member-items.ensures.value)
