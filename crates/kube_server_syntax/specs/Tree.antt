-- Trusted by laws alone.
-- The tree of an expression with optional syntax as contracts see it, with the place of each part
-- (abstract syntax of the CEL language definition; CEL-Go's `OptionalTypes`).
use Rattle.std.specs.Prelude.{ℕ, List, [], ◌∷◌, Bool, Option, Some, None, Box}
use Rattle.std.specs.declared.alloc.Global.{Global}
use Rattle.cel_value.specs.Data.{Data}
use Rattle.cel_value.specs.View.{view}
use Rattle.cel_syntax.specs.UnaryOperator.{UnaryOperator}
use Rattle.cel_syntax.specs.BinaryOperator.{BinaryOperator}
use Rattle.kube_server_syntax.specs.declared.node.Place.{Place}
use Rattle.kube_server_syntax.specs.declared.node.Node.{Node, fold-Node}
use Rattle.kube_server_syntax.specs.declared.node.Node.TheOpen.{Node-F}

mutual
  pub data Tree : Type 0 where
    literal : Place → Data → Tree
    ident : Place → List ℕ → Tree
    -- the operand, whether the field is optional, and its name
    select : Place → Tree → Bool → List ℕ → Tree
    -- the operand, whether the index is optional, and the index
    index : Place → Tree → Bool → Tree → Tree
    unary : Place → UnaryOperator → Tree → Tree
    binary : Place → BinaryOperator → Tree → Tree → Tree
    -- the condition, the branch if it is true, the branch if it is false
    conditional : Place → Tree → Tree → Tree → Tree
    -- an expression in round brackets
    round : Place → Tree → Tree
    list_of : Place → Items → Tree
    map_of : Place → Entries → Tree
    -- the target, if any, the name, the arguments; a macro is a call
    call : Place → Trees → List ℕ → Trees → Tree

  pub data Trees : Type 0 where
    no_trees : Trees
    tree_and : Tree → Trees → Trees

  -- items of a list, each with whether it is optional
  pub data Items : Type 0 where
    no_items : Items
    item_and : Bool → Tree → Items → Items

  -- keys with their values, each with whether it is optional
  pub data Entries : Type 0 where
    no_entries : Entries
    entry_and : Bool → Tree → Tree → Entries → Entries

abbrev pub one_of : Option (Box Tree Global) → Trees
one_of None = no_trees
one_of (Some b) = tree_and b.value no_trees

abbrev pub trees_of : List Tree → Trees
trees_of [] = no_trees
trees_of (t ∷ ts) = tree_and t (trees_of ts)

abbrev pub items_of : List (Bool × Tree) → Items
items_of [] = no_items
items_of (i ∷ is) = item_and i.0 i.1 (items_of is)

abbrev pub entries_of : List (Bool × Tree × Tree) → Entries
entries_of [] = no_entries
entries_of (e ∷ es) = entry_and e.0 e.1 e.2 (entries_of es)

-- the tree of a node, given the trees of its parts
abbrev pub tree_step : Node-F Tree → Tree
tree_step (Node-F.Literal p v) = literal p (view v)
tree_step (Node-F.Ident p x) = ident p x
tree_step (Node-F.Select p a o x) = select p a.value o x
tree_step (Node-F.Index p a o i) = index p a.value o i.value
tree_step (Node-F.Unary p op a) = unary p op a.value
tree_step (Node-F.Binary p op a b) = binary p op a.value b.value
tree_step (Node-F.Conditional p a b c) = conditional p a.value b.value c.value
tree_step (Node-F.Round p a) = round p a.value
tree_step (Node-F.List p is) = list_of p (items_of is.items)
tree_step (Node-F.Map p es) = map_of p (entries_of es.items)
tree_step (Node-F.Call p a x ts) = call p (one_of a) x (trees_of ts.items)

-- the tree of a node
abbrev pub tree : Node → Tree
tree = fold-Node Tree tree_step

-- where the expression stands in the text
abbrev pub place_of : Tree → Place
place_of (literal p v) = p
place_of (ident p x) = p
place_of (select p a o x) = p
place_of (index p a o i) = p
place_of (unary p op a) = p
place_of (binary p op a b) = p
place_of (conditional p a b c) = p
place_of (round p a) = p
place_of (list_of p is) = p
place_of (map_of p es) = p
place_of (call p target x ts) = p
