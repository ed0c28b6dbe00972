use Rattle.std.proofs.Common.{sym, ap, ◌∙◌, Some, option_map}
use Rattle.kube_schema.specs.Tree.{additional_of}
use Rattle.kube_schema.specs.Raw.{tree}
use Rattle.kube_schema.proofs.Trees.{additional_at}
use Rattle.kube_schema.proofs.node.SchemaNode.additional_properties.Goals as goal

pub returns-in_default : goal.returns-in_default
returns-in_default g c =
    let f = tree g.K.NodeKeywords.own c.args.self.now.schema.now.table.nodes.items in
    sym (ap additional_of c.raw.ensures.is ∙ additional_at g.K.NodeKeywords.own f c.raw.result.now ∙ ap (option_map (λ n. f n.0)) c.in_default.is)

pub returns : goal.returns
returns g c =
    let f = tree g.K.NodeKeywords.own c.args.self.now.schema.now.table.nodes.items in
    ap Some c.at.ensures ∙ sym (ap additional_of c.raw.ensures.is ∙ additional_at g.K.NodeKeywords.own f c.raw.result.now ∙ ap (option_map (λ n. f n.0)) c.in-Some.is)
