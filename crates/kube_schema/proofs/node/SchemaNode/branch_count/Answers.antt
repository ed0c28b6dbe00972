use Rattle.std.proofs.Common.{sym, ap, ◌∙◌}
use Rattle.kube_schema.specs.Shown.{node_tree}
use Rattle.kube_schema.specs.Tree.{nodes_length, branches_of, all_of, one_of, any_of}
use Rattle.kube_schema.specs.Raw.{tree}
use Rattle.kube_schema.proofs.Trees.{numbers_length, all_of_at, one_of_at, any_of_at}
use Rattle.kube_schema.proofs.node.SchemaNode.branch_count.Goals as goal

pub returns-in-AllOf : goal.returns-in-AllOf
returns-in-AllOf g c =
    let f = tree g.K.NodeKeywords.own c.args.self.now.schema.now.table.nodes.items in
    let r = c.raw-raw.result.now in
    c.len.ensures ∙ r.children.all_of.ok.0 ∙ sym (ap (λ n. nodes_length (all_of n)) c.raw-raw.ensures.is ∙ ap nodes_length (all_of_at g.K.NodeKeywords.own f r) ∙ numbers_length f r.children.all_of.items)
    ∙ sym (ap (λ kind. nodes_length (branches_of kind (node_tree c.args.self.now))) c.in-AllOf.is)

pub returns-in-OneOf : goal.returns-in-OneOf
returns-in-OneOf g c =
    let f = tree g.K.NodeKeywords.own c.args.self.now.schema.now.table.nodes.items in
    let r = c.raw-raw.result.now in
    c.len-in-OneOf.ensures ∙ r.children.one_of.ok.0 ∙ sym (ap (λ n. nodes_length (one_of n)) c.raw-raw.ensures.is ∙ ap nodes_length (one_of_at g.K.NodeKeywords.own f r) ∙ numbers_length f r.children.one_of.items)
    ∙ sym (ap (λ kind. nodes_length (branches_of kind (node_tree c.args.self.now))) c.in-OneOf.is)

pub returns-in-AnyOf : goal.returns-in-AnyOf
returns-in-AnyOf g c =
    let f = tree g.K.NodeKeywords.own c.args.self.now.schema.now.table.nodes.items in
    let r = c.raw-raw.result.now in
    c.len-in-AnyOf.ensures ∙ r.children.any_of.ok.0 ∙ sym (ap (λ n. nodes_length (any_of n)) c.raw-raw.ensures.is ∙ ap nodes_length (any_of_at g.K.NodeKeywords.own f r) ∙ numbers_length f r.children.any_of.items)
    ∙ sym (ap (λ kind. nodes_length (branches_of kind (node_tree c.args.self.now))) c.in-AnyOf.is)
