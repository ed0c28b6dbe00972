use Rattle.std.proofs.Common.{◌-◌, ◌<◌, Some, length, take_all, subst, arith}
use Rattle.serde_json.specs.View.{members_view}
use Rattle.cel_demand.specs.Alike.{MembersAlike}
use Rattle.cel_demand.specs.Demand.{members_view as demands_view}
use Rattle.cel_value.specs.Data.{text_key}
use Rattle.cel_value.specs.Find.{find}
use Rattle.kube_schema_parts.specs.Parts.{entries_at}
use Rattle.kube_schema_parts.proofs.Replaced.{put_more, put_none}
use Rattle.kube_schema_parts.proofs.rebinding.put_members.Goals as goal

pub loop-index-init : goal.loop-index-init
loop-index-init g c =
    put_none c.args.members.now.items (entries_at g.N.Node.accessors (64 - c.args.depth) (Some (g.N.Node.seen c.args.node)) (members_view c.args.object.now.entries)) c.args.map.now

pub loop-index-preserved : goal.loop-index-preserved
loop-index-preserved g c =
    let ms = c.args.members.now.items in
    let bound = entries_at g.N.Node.accessors (64 - c.args.depth) (Some (g.N.Node.seen c.args.node)) (members_view c.args.object.now.entries) in
    let lt : c.loop-index.index < length ms = omega (arith, c.loop-index-test.true) in
    put_more ms c.loop-index.index c.index-member.result.now bound c.loop-index.map c.put_member.new.map lt c.index-member.ensures (c.in_ok-put_member.ensures.put c.if-not-branch.false) c.loop-index.invariant

pub returns-clause-members : goal.returns-clause-members
returns-clause-members g c = λ h.
    let ms = c.args.members.now.items in
    let bound = entries_at g.N.Node.accessors (64 - c.args.depth) (Some (g.N.Node.seen c.args.node)) (members_view c.args.object.now.entries) in
    let all = take_all c.loop-index.index ms (omega (arith, c.loop-index-test.false)) in
    subst (λ es. MembersAlike (demands_view es) (λ x. find (text_key x) c.loop-index.map) (λ x. find (text_key x) bound)) all c.loop-index.invariant.1
