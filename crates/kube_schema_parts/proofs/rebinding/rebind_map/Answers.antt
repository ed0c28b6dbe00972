use Rattle.std.proofs.Common.{◌≡◌, ◌-◌, ◌≤◌, Some, suc, sym, ap, ◌∙◌, subst, inr, arith}
use Rattle.serde_json.specs.View.{view as json_view, members_view}
use Rattle.cel_demand.specs.Alike.{Alike}
use Rattle.cel_demand.specs.Demand.{part_of, members_view as demands_view}
use Rattle.cel_demand.specs.Part.{some_members}
use Rattle.cel_value.specs.Data.{map_of}
use Rattle.kube_schema_parts.specs.Parts.{value_at}
use Rattle.kube_schema_parts.proofs.Bound.{alike_by, members_part, object_bound}
use Rattle.kube_schema_parts.proofs.rebinding.rebind_map.Goals as goal

pub returns-clause-value : goal.returns-clause-value
returns-clause-value g c = λ h.
    let d = c.args.depth in
    let o = Some (g.N.Node.seen c.args.node) in
    let p = some_members (demands_view c.in-Members.members.items) in
    let object = members_view c.in-Some.object.now.entries in
    let within : d ≤ 64 = c.in-Some.ensures.within in
    let next : 65 - d ≡ suc (64 - d) = omega (arith, within) in
    let bound = object_bound g.N.Node.accessors (65 - d) (64 - d) o (json_view c.args.value.now) object next c.in-Some.ensures.members in
    let whole = value_at g.N.Node.accessors (65 - d) o (json_view c.args.value.now) in
    alike_by c.args.demand.now p (map_of c.put_members.new.map) whole (ap part_of c.in-Members.is ∙ members_part c.in-Members.members)
    (subst (λ w. Alike p (map_of c.put_members.new.map) w) (sym bound) (inr (c.in_ok-is_put.ensures.members h)))
