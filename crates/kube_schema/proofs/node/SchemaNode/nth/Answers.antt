use Rattle.std.proofs.Common.{◌<◌, ◌≤◌, length, suc, sym, ap, ◌∙◌, Some, option_map, arith}
use Rattle.std.proofs.lemmas.Option.{slice_get_past}
use Rattle.kube_schema.specs.Raw.{tree}
use Rattle.kube_schema.proofs.Trees.{nodes_nth, nth_there, number_below}
use Rattle.kube_schema.proofs.node.SchemaNode.nth.Goals as goal

pub returns-then-i-len : goal.returns-then-i-len
returns-then-i-len g c =
    let f = tree g.K.NodeKeywords.own c.args.self.now.schema.now.table.nodes.items in
    let ns = c.args.numbers.now in
    let long = c.len.ensures ∙ ns.ok.0 in
    let past : length ns.items ≤ c.args.i = omega arith in
    sym (nodes_nth f ns.items c.args.i ∙ ap (option_map (λ n. f n.0)) (slice_get_past ns.items c.args.i past))

pub at-requires : goal.at-requires
at-requires g c =
    let ns = c.args.numbers.now in
    let long = c.len.ensures ∙ ns.ok.0 in
    let t = c.args.self.now.schema.now.table.nodes.items in
    let before : c.args.i < length ns.items = omega arith in
    number_below (suc c.args.self.now.number.0) (length t) ns.items c.args.i c.index.result.now c.requires (nth_there ns.items c.args.i c.index.result.now before c.index.ensures)

pub returns : goal.returns
returns g c =
    let f = tree g.K.NodeKeywords.own c.args.self.now.schema.now.table.nodes.items in
    let ns = c.args.numbers.now in
    let long = c.len.ensures ∙ ns.ok.0 in
    let before : c.args.i < length ns.items = omega arith in
    ap Some c.at.ensures ∙ sym (nodes_nth f ns.items c.args.i ∙ ap (option_map (λ n. f n.0)) (nth_there ns.items c.args.i c.index.result.now before c.index.ensures))
