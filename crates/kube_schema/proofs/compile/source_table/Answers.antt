use Rattle.std.proofs.Common.{◌≡◌, ◌<◌, length, sym, ap, ◌∙◌, arith}
use Rattle.kube_schema.specs.Source.{source_own}
use Rattle.kube_schema.specs.Raw.{tree}
use Rattle.kube_schema.specs.Tree.{count}
use Rattle.kube_schema.proofs.compile.source_table.Goals as goal

pub returns-clause-tree : goal.returns-clause-tree
returns-clause-tree c =
    let first : c.in_ok-_root._root.0 ≡ 0 = c.in_ok-_root.ensures.adds.first ∙ ap length c.new_table-table.ensures in
    ap (tree source_own c.add_node.new.table.nodes.items) (sym first) ∙ c.in_ok-_root.ensures.adds.shows

pub returns-clause-counted : goal.returns-clause-counted
returns-clause-counted c =
    let adds = c.in_ok-_root.ensures.adds in
    let none = ap length c.new_table-table.ensures in
    let counted = adds.counted in
    let same = ap count (returns-clause-tree c) in
    omega arith

pub returns-clause-rooted : goal.returns-clause-rooted
returns-clause-rooted c =
    let within = c.in_ok-_root.ensures.adds.within in
    omega arith
