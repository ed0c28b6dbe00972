use Rattle.std.proofs.Common.{◌≡◌, ℕ, List, ◌<◌, ◌≤◌, length, suc, sym, ap, ◌∙◌, Some, Option, option_map, string_bytes, arith}
use Rattle.std.proofs.lemmas.Option.{slice_get_past}
use Rattle.kube_schema.specs.Tree.{Node, nth_named, named_of, property_of, find}
use Rattle.kube_schema.specs.Raw.{tree}
use Rattle.kube_schema.proofs.Trees.{property_at, nth_there, link_below, found_at, named_opens}
use Rattle.kube_schema.specs.Shown.{node_tree}
use Rattle.kube_schema.proofs.node.SchemaNode.property.Goals as goal

pair : {a b : List ℕ} {m n : Node} → a ≡ b → m ≡ n → ◌≡◌ {A = Option (List ℕ × Node)} (Some (a, m)) (Some (b, n))
pair {a} {b} {m} {n} p q = ap {B = Option (List ℕ × Node)} (λ x. Some (x, m)) p ∙ ap {B = Option (List ℕ × Node)} (λ x. Some (b, x)) q

pub returns-then-i-len-clause-pair : goal.returns-then-i-len-clause-pair
returns-then-i-len-clause-pair g c =
    let f = tree g.K.NodeKeywords.own c.args.self.now.schema.now.table.nodes.items in
    let r = c.raw-raw.result.now in
    let long = c.len.ensures ∙ r.children.properties.ok.0 in
    let past : length r.children.properties.items ≤ c.args.i = omega arith in
    sym (ap (λ n. nth_named c.args.i (named_of n)) c.raw-raw.ensures.is ∙ property_at g.K.NodeKeywords.own f r c.args.i ∙ ap (option_map (λ l. (string_bytes l.name, f l.node.0))) (slice_get_past r.children.properties.items c.args.i past))

pub at-requires : goal.at-requires
at-requires g c =
    let r = c.raw-raw.result.now in
    let long = c.len.ensures ∙ r.children.properties.ok.0 in
    let t = c.args.self.now.schema.now.table.nodes.items in
    let before : c.args.i < length r.children.properties.items = omega arith in
    link_below (suc c.args.self.now.number.0) (length t) r.children.properties.items c.args.i c.index-link.result.now c.raw-raw.ensures.within.0 (nth_there r.children.properties.items c.args.i c.index-link.result.now before c.index-link.ensures)

pub returns-clause-pair : goal.returns-clause-pair
returns-clause-pair g c =
    let f = tree g.K.NodeKeywords.own c.args.self.now.schema.now.table.nodes.items in
    let r = c.raw-raw.result.now in
    let long = c.len.ensures ∙ r.children.properties.ok.0 in
    let before : c.args.i < length r.children.properties.items = omega arith in
    pair c.as_str.ensures.value c.at.ensures ∙ sym (ap (λ n. nth_named c.args.i (named_of n)) c.raw-raw.ensures.is ∙ property_at g.K.NodeKeywords.own f r c.args.i ∙ ap (option_map (λ l. (string_bytes l.name, f l.node.0))) (nth_there r.children.properties.items c.args.i c.index-link.result.now before c.index-link.ensures))

pub returns-clause-named : goal.returns-clause-named
returns-clause-named g c =
    let f = tree g.K.NodeKeywords.own c.args.self.now.schema.now.table.nodes.items in
    let r = c.raw-raw.result.now in
    let long = c.len.ensures ∙ r.children.properties.ok.0 in
    let before : c.args.i < length r.children.properties.items = omega arith in
    ap (λ k. property_of k (node_tree c.args.self.now)) c.as_str.ensures.value ∙ ap (property_of (string_bytes c.index-link.result.now.name)) c.raw-raw.ensures.is
    ∙ ap (find (string_bytes c.index-link.result.now.name)) (named_opens g.K.NodeKeywords.own f r)
    ∙ found_at f r.children.properties.items c.args.i c.index-link.result.now c.raw-raw.ensures.ordered (nth_there r.children.properties.items c.args.i c.index-link.result.now before c.index-link.ensures) ∙ ap Some (sym c.at.ensures)
