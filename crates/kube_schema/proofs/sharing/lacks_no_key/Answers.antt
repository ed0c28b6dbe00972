use Rattle.std.proofs.Common.{◌≤◌, ◌+◌, length, refl, sym, ◌∙◌, arith}
use Rattle.serde_json.specs.View.{members_view}
use Rattle.kube_schema_values.specs.Defaults.{default_by}
use Rattle.kube_schema.specs.CompiledDefaults.{tree_accessors}
use Rattle.kube_schema.specs.Shown.{node_tree}
use Rattle.kube_schema.specs.Tree.{named_of, names}
use Rattle.kube_schema.proofs.Names.{default_at, defaults_over, defaults_past}
use Rattle.kube_schema.proofs.sharing.lacks_no_key.Goals as goal

pub returns-in_default : goal.returns-in_default
returns-in_default g c = λ yes f.
    let s = node_tree c.args.node.now in
    sym (defaults_over (default_by tree_accessors f s) (named_of s) c.loop-index.index (members_view c.args.members.now.entries) c.in_default.ensures.pair ∙ c.loop-index.invariant f)

pub loop-index-preserved : goal.loop-index-preserved
loop-index-preserved g c = λ f.
    let ms = members_view c.args.members.now.entries in
    default_at f (node_tree c.args.node.now) c.loop-index.index (c.loop-index.index + 1) c.in-Some.key.now (node_tree c.in-Some.property) ms ms c.in-Some.ensures.pair c.in-Some.ensures.named (omega arith)
    (c.if-not-lacks_no_default.ensures refl (f (node_tree c.in-Some.property)))
    ∙ c.loop-index.invariant f

pub returns : goal.returns
returns g c = λ yes f.
    let s = node_tree c.args.node.now in
    let past : length (names (named_of s)) ≤ c.loop-index.index = let e = c.property_count-index-end.ensures.count in let h = c.loop-index-test.false in omega arith in
    sym (defaults_past (default_by tree_accessors f s) (names (named_of s)) c.loop-index.index (members_view c.args.members.now.entries) past ∙ c.loop-index.invariant f)
