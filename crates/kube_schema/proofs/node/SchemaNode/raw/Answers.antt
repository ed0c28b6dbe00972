use Rattle.std.proofs.Common.{sym, ap, ◌∙◌, ◌≡◌, slice_get, Some}
use Rattle.std.proofs.lemmas.Option.{slice_get-get_or}
use Rattle.kube_schema.specs.Shown.{node_tree}
use Rattle.kube_schema.proofs.Trees.{opens}
use Rattle.kube_schema.proofs.node.SchemaNode.raw.Goals as goal

pub returns : goal.returns
unfolding node_tree
returns g c =
    let n = c.args.self.now in
    let t = n.schema.now.table.nodes.items in
    let there : slice_get t n.number.0 ≡ Some c.index.result.now = slice_get-get_or t n.number.0 c.index.result.now n.stands ∙ ap Some (sym c.index.ensures) in record {
      is = opens g.K.NodeKeywords.own t n.number.0 c.index.result.now n.schema.now.table.closed there;
      ordered = n.schema.now.table.ordered n.number.0 c.index.result.now there;
      within = n.schema.now.table.closed n.number.0 c.index.result.now there;
    }
