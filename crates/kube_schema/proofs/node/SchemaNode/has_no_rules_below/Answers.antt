use Rattle.std.proofs.Common.{◌≡◌, ◌≤◌, slice_get, Some, sym, ap, ◌∙◌, arith}
use Rattle.std.proofs.lemmas.Option.{slice_get-get_or}
use Rattle.kube_schema.specs.Shown.{node_tree}
use Rattle.kube_schema.proofs.Levels.{no_rules_below_more}
use Rattle.kube_schema.proofs.node.SchemaNode.has_no_rules_below.Goals as goal

pub returns : goal.returns
unfolding node_tree
returns g c = λ yes.
    let n = c.args.self.now in
    let known = n.schema.now.below.items in
    let i = n.number.0 in
    let l = c.in-Some-Some.ensures.lookup in
    let there : slice_get c.deref.result.now i ≡ Some c.in-Some-Some.field-0.now = slice_get-get_or _ _ _ l.3.0 ∙ ap Some (sym l.1) in
    let entry : slice_get known i ≡ Some (Some c.in-Some-Some.below) = ap (λ xs. slice_get xs i) (sym c.deref.ensures.value) ∙ there ∙ ap Some c.in-Some-Some.field-0-is in
    let small : c.in-Some-Some.below ≤ c.args.levels = grind (arith, yes) in
    no_rules_below_more c.in-Some-Some.below c.args.levels (node_tree n) small (n.schema.now.without_rules i c.in-Some-Some.below entry)
