use Rattle.std.proofs.Common.{length, suc, slice_get, Some, sym, ap, ◌∙◌}
use Rattle.kube_schema.specs.Raw.{tree, named_at}
use Rattle.kube_schema.specs.Tree.{find, named_of}
use Rattle.kube_schema.proofs.Trees.{named_opens, link_below}
use Rattle.kube_schema.proofs.node.SchemaNode.property_named.Goals as goal

pub at-requires : goal.at-requires
at-requires g c =
    let t = c.args.self.now.schema.now.table.nodes.items in
    let links = c.raw-raw.result.now.children.properties.items in
    let stands = c.in-Some.ensures.stands in
    link_below (suc c.args.self.now.number.0) (length t) links stands.0 c.in-Some.link.now c.raw-raw.ensures.within.0 (ap (λ ls. slice_get ls stands.0) (sym c.deref.ensures.value) ∙ stands.1)

pub returns-in-Some : goal.returns-in-Some
returns-in-Some g c =
    let f = tree g.K.NodeKeywords.own c.args.self.now.schema.now.table.nodes.items in
    let k = c.args.name.now in
    ap Some c.at.ensures ∙ c.in-Some.ensures.leads f ∙ ap (λ ls. find k (named_at f ls)) c.deref.ensures.value ∙ sym (ap (λ n. find k (named_of n)) c.raw-raw.ensures.is ∙ ap (find k) (named_opens g.K.NodeKeywords.own f c.raw-raw.result.now))

pub returns-in-None : goal.returns-in-None
returns-in-None g c =
    let f = tree g.K.NodeKeywords.own c.args.self.now.schema.now.table.nodes.items in
    let k = c.args.name.now in
    c.in-None.ensures.leads f ∙ ap (λ ls. find k (named_at f ls)) c.deref.ensures.value ∙ sym (ap (λ n. find k (named_of n)) c.raw-raw.ensures.is ∙ ap (find k) (named_opens g.K.NodeKeywords.own f c.raw-raw.result.now))
