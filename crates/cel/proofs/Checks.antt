-- The trees of a check.
use Rattle.cel.specs.Checks.{Trees, Unread, message_tree_of, required_tree, trees_of, unread, with_tree, ◌>>=◌}
use Rattle.cel_syntax.specs.Term.{Term}
use Rattle.std.proofs.Common.{◌≡◌, ℕ, List, Option, Some, None, Result, Ok, Err, ap}

among : (u : Term) (q : Result (Option Term) Unread) (t : Trees) → (q >>= (λ m. Ok (record { tree = u; message_tree = m }))) ≡ Ok t → u ≡ t.tree
among u (Ok m) t h = let same : ◌≡◌ {A = Trees} (record { tree = u; message_tree = m }) t = cc in ap (λ t. t.tree) same
among u (Err x) t h = cc

kept : (tree : List ℕ → Option Term) (o : Option Term) (m : Option (List ℕ)) (t : Trees) → (required_tree unread o >>= with_tree tree m) ≡ Ok t → o ≡ Some t.tree
kept tree None m t h = cc
kept tree (Some u) m t h = ap Some (among u (message_tree_of tree m) t h)

-- that of the expression is the tree of its text
pub tree_kept : (tree : List ℕ → Option Term) (text : List ℕ) (m : Option (List ℕ)) (t : Trees) → trees_of tree text m ≡ Ok t → tree text ≡ Some t.tree
tree_kept tree text m t h = kept tree (tree text) m t h
