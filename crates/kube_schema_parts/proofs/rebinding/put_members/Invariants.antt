use Rattle.std.proofs.Common.{◌-◌, Some}
use Rattle.serde_json.specs.View.{members_view}
use Rattle.kube_schema_parts.specs.Parts.{entries_at}
use Rattle.kube_schema_parts.proofs.Replaced.{ArePutTo}
use Rattle.kube_schema_parts.proofs.rebinding.put_members.Given as goal

abbrev pub invariant-loop-index : goal.invariant-loop-index
invariant-loop-index g l =
    ArePutTo l.index l.members.items (entries_at g.N.Node.accessors (64 - l.depth) (Some (g.N.Node.seen l.node)) (members_view l.object.entries)) l.map
