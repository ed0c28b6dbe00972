use Rattle.std.proofs.Common.{◌≡◌, ◌<◌, length, slice_get, Some, refl, arith, ◌∙◌}
use Rattle.kube_schema.specs.Source.{source_own}
use Rattle.kube_schema.proofs.Kept.{same_closed, same_ordered, same_set}
use Rattle.kube_schema.proofs.Trees.{nth_there}
use Rattle.kube_schema.proofs.reached.compile_node.Goals as goal

pub returns-clause-same : goal.returns-clause-same
returns-clause-same c =
    let t = c.args.table.now.nodes.items in
    let r = c.index_mut-node.result.now in
    let long = c.len.ensures ∙ c.args.table.now.nodes.ok.0 in
    let before : c.args.number < length t = omega arith in
    same_set source_own t c.args.number r _ (nth_there t c.args.number r before c.index_mut-node.ensures.value) refl c.compile.ensures.same

pub returns-in_err-compile-clause-same : goal.returns-in_err-compile-clause-same
returns-in_err-compile-clause-same c =
    let t = c.args.table.now.nodes.items in
    let r = c.index_mut-node.result.now in
    let long = c.len.ensures ∙ c.args.table.now.nodes.ok.0 in
    let before : c.args.number < length t = omega arith in
    same_set source_own t c.args.number r _ (nth_there t c.args.number r before c.index_mut-node.ensures.value) refl c.compile.ensures.same
