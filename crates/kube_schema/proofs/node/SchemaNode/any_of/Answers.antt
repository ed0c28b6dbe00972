use Rattle.std.proofs.Common.{sym, ap, ◌∙◌}
use Rattle.kube_schema.specs.Tree.{nth_node, any_of}
use Rattle.kube_schema.specs.Raw.{tree}
use Rattle.kube_schema.proofs.Trees.{any_of_at}
use Rattle.kube_schema.proofs.node.SchemaNode.any_of.Goals as goal

pub nth-requires : goal.nth-requires
nth-requires g c = c.raw-raw.ensures.within.5

pub returns : goal.returns
returns g c =
    let f = tree g.K.NodeKeywords.own c.args.self.now.schema.now.table.nodes.items in
    c.nth.ensures ∙ sym (ap (λ n. nth_node c.args.i (any_of n)) c.raw-raw.ensures.is ∙ ap (nth_node c.args.i) (any_of_at g.K.NodeKeywords.own f c.raw-raw.result.now))
