use Rattle.kube_schema.proofs.node.SchemaNode.property_count.Goals as goal
use Rattle.kube_schema.proofs.Trees.{names_length, named_opens}
use Rattle.kube_schema.proofs.Build.{names_of_links}
use Rattle.kube_schema.specs.Raw.{tree}
use Rattle.kube_schema.specs.Tree.{named_of, names}
use Rattle.std.proofs.Common.{length, nat_cmp, sym, ap, subst, ◌∙◌}
use Rattle.std.specs.Cmp.Lexicographic.{slice_cmp}
use Rattle.std.specs.List.Sorted.{IsStrictlySortedBy}

pub returns-clause-count : goal.returns-clause-count
returns-clause-count g c =
    let f = tree g.K.NodeKeywords.own c.args.self.now.schema.now.table.nodes.items in
    let r = c.raw.result.now in
    c.len.ensures ∙ r.children.properties.ok.0 ∙ sym (ap (λ n. length (names (named_of n))) c.raw.ensures.is ∙ ap (λ ns. length (names ns)) (named_opens g.K.NodeKeywords.own f r) ∙ names_length f r.children.properties.items)

pub returns-clause-ordered : goal.returns-clause-ordered
returns-clause-ordered g c =
    let f = tree g.K.NodeKeywords.own c.args.self.now.schema.now.table.nodes.items in
    let r = c.raw.result.now in
    subst (IsStrictlySortedBy (slice_cmp nat_cmp))
    (sym (ap (λ n. names (named_of n)) c.raw.ensures.is ∙ ap names (named_opens g.K.NodeKeywords.own f r) ∙ names_of_links f r.children.properties.items)) c.raw.ensures.ordered
