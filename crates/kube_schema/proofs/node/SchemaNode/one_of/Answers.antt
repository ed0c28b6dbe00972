use Rattle.std.proofs.Common.{sym, ap, ◌∙◌}
use Rattle.kube_schema.specs.Tree.{nth_node, one_of}
use Rattle.kube_schema.specs.Raw.{tree}
use Rattle.kube_schema.proofs.Trees.{one_of_at}
use Rattle.kube_schema.proofs.node.SchemaNode.one_of.Goals as goal

pub nth-requires : goal.nth-requires
nth-requires g c = c.raw-raw.ensures.within.4

pub returns : goal.returns
returns g c =
    let f = tree g.K.NodeKeywords.own c.args.self.now.schema.now.table.nodes.items in
    c.nth.ensures ∙ sym (ap (λ n. nth_node c.args.i (one_of n)) c.raw-raw.ensures.is ∙ ap (nth_node c.args.i) (one_of_at g.K.NodeKeywords.own f c.raw-raw.result.now))
