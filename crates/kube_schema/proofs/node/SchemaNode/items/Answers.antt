use Rattle.std.proofs.Common.{sym, ap, ◌∙◌, Some, option_map}
use Rattle.kube_schema.specs.Tree.{items_of}
use Rattle.kube_schema.specs.Raw.{tree}
use Rattle.kube_schema.proofs.Trees.{items_at}
use Rattle.kube_schema.proofs.node.SchemaNode.items.Goals as goal

pub returns-in_default : goal.returns-in_default
returns-in_default g c =
    let f = tree g.K.NodeKeywords.own c.args.self.now.schema.now.table.nodes.items in
    sym (ap items_of c.raw.ensures.is ∙ items_at g.K.NodeKeywords.own f c.raw.result.now ∙ ap (option_map (λ n. f n.0)) c.in_default.is)

pub returns : goal.returns
returns g c =
    let f = tree g.K.NodeKeywords.own c.args.self.now.schema.now.table.nodes.items in
    ap Some c.at.ensures ∙ sym (ap items_of c.raw.ensures.is ∙ items_at g.K.NodeKeywords.own f c.raw.result.now ∙ ap (option_map (λ n. f n.0)) c.in-Some.is)
