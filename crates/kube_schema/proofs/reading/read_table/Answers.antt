use Rattle.kube_schema.specs.Source.{source_own}
use Rattle.kube_schema.proofs.Kept.{same_closed, same_ordered}
use Rattle.kube_schema.proofs.reading.read_table.Goals as goal

pub invariant_of-result : goal.invariant_of-result
invariant_of-result g c =
    let own = g.K.NodeKeywords.own in
    let t = c.args.source.nodes.items in
    let u = c.in_ok-nodes.nodes.items in
    let e = c.in_ok-nodes.ensures.same in record {
      closed = same_closed source_own own t u e c.args.source.closed;
      ordered = same_ordered source_own own t u e c.args.source.ordered;
    }
