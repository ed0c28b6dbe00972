use Rattle.kube_schema.proofs.Trees.{closed_set, ordered_set}
use Rattle.kube_schema.proofs.table.replace_node.Goals as goal

pub invariant_of-table : goal.invariant_of-table
invariant_of-table g c = record {
  closed = closed_set c.args.table.now.nodes.items c.args.number.0 c.args.node c.args.table.now.closed c.requires.within;
  ordered = ordered_set c.args.table.now.nodes.items c.args.number.0 c.args.node c.args.table.now.ordered c.requires.ordered;
}
