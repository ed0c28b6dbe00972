-- Scaffolding: only proofs and private clauses cite it.
-- The trees of nodes that brackets hold.
use Rattle.std.specs.Prelude.{Bool, map, Option, Some, None, Box, Vec}
use Rattle.std.specs.declared.alloc.Global.{Global}
use Rattle.kube_server_syntax.specs.Tree.{Tree, Trees, Items, Entries, no_trees, tree_and, trees_of, items_of, entries_of, tree}
use Rattle.kube_server_syntax.specs.declared.node.Node.{Node}

abbrev pub item_view : Bool × Node → Bool × Tree
item_view i = (i.0, tree i.1)

abbrev pub entry_view : Bool × Node × Node → Bool × Tree × Tree
entry_view e = (e.0, tree e.1, tree e.2)

abbrev pub items_view : Vec (Bool × Node) Global → Items
items_view is = items_of (map item_view is.items)

abbrev pub entries_view : Vec (Bool × Node × Node) Global → Entries
entries_view es = entries_of (map entry_view es.items)

abbrev pub target_view : Option (Box Node Global) → Trees
target_view None = no_trees
target_view (Some b) = tree_and (tree b.value) no_trees

abbrev pub arguments_view : Vec Node Global → Trees
arguments_view ts = trees_of (map tree ts.items)
