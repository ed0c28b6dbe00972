use Rattle.std.proofs.Common.{◌≡◌, ◌-◌, Some, subst}
use Rattle.serde_json.specs.View.{members_view}
use Rattle.cel_demand.specs.Alike.{Alike}
use Rattle.cel_demand.specs.Demand.{part_of}
use Rattle.cel_demand.specs.Places.{name_of}
use Rattle.cel_value.specs.Data.{Data, text_key}
use Rattle.cel_value.specs.Find.{find}
use Rattle.cel_value.specs.View.{view}
use Rattle.std.specs.Prelude.{IfSome}
use Rattle.kube_schema_values.specs.Escape.{escape}
use Rattle.kube_schema_parts.specs.Parts.{entries_at}
use Rattle.kube_schema_parts.proofs.Replaced.{put_at}
use Rattle.kube_schema_parts.proofs.rebinding.put_member.Goals as goal

pub member_part-requires-clause-own : goal.member_part-requires-clause-own
member_part-requires-clause-own g c =
    subst (λ y. escape y ≡ y) c.as_str-name.ensures (c.is_its_own_escape.ensures c.if-not-is_its_own_escape.false)

pub returns-in-Some-clause-put : goal.returns-in-Some-clause-put
returns-in-Some-clause-put g c =
    let m = c.args.member.now in
    let bound = entries_at g.N.Node.accessors (64 - c.args.depth) (Some (g.N.Node.seen c.args.node)) (members_view c.args.object.now.entries) in
    let found = subst (λ o. IfSome o (λ v. (w : Data) × (find (text_key (name_of m)) bound ≡ Some w) × Alike (part_of m.1) (view v) w)) c.in-Some.is c.in_ok-found.ensures.part in
    put_at c.replace_at.result c.args.index m bound c.args.map.now c.replace_at.new.self (view c.in-Some.part) (c.has_key_at.ensures c.if-not-has_key_at.false) found c.replace_at.ensures.replaced
