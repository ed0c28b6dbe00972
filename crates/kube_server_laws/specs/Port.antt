-- Trusted by laws alone.
-- The port's tree of a text, from an API server's tree of the same text: round brackets make no node,
-- and calls are what the port's parser makes of them. A tree with a form that the port doesn't have
-- has none.
use Rattle.std.specs.Prelude.{◌≡◌, ℕ, List, [], ◌∷◌, true, false, Option, Some, None, option_map, Ok, Err}
use Rattle.std.specs.Option.{option_and_then}
use Rattle.cel_syntax_ast.specs.Calls.{call_of, has_of, method_of}
use Rattle.cel_syntax_ast.specs.Term as term
use Rattle.cel_syntax_ast.specs.Term.{Term, terms_of, pairs_of}
use Rattle.kube_server_syntax.specs.Tree.{Tree, literal, ident, select, index, unary, binary, conditional, round, list_of, map_of, call, Trees, no_trees, tree_and, Items, no_items, item_and, Entries, no_entries, entry_and}
use Rattle.kube_server_translation.specs.Calls.{Translated, variables_of}
use Rattle.kube_server_translation.specs.Kinds.{kind_of_call}
use Rattle.kube_server_translation.specs.Made.{Names}
use Rattle.kube_server_translation.specs.Translation.{count_of, is_optional_name}
use Rattle.kube_server_translation.specs.declared.kind.CallKind.{CallKind}
use Rattle.kube_server_translation.specs.declared.kind.CallKind.TheVariants as kind

-- both, or none
abbrev pub both_of : {A B C : Type 0} → (A → B → C) → Option A → Option B → Option C
both_of f (Some a) (Some b) = Some (f a b)
both_of f _ _ = None

abbrev pub three_of : Option Term → Option Term → Option Term → Option Term
three_of (Some u) (Some v) (Some w) = Some (term.conditional u v w)
three_of _ _ _ = None

abbrev pub entry_of : Option Term → Option Term → Option (List (Term × Term)) → Option (List (Term × Term))
entry_of (Some u) (Some v) (Some ps) = Some ((u, v) ∷ ps)
entry_of _ _ _ = None

-- what the port's parser makes of a call, if the port has calls of the kind
abbrev pub port_call : CallKind → List ℕ → List Term → List Term → Option Term
port_call kind.Has w ts us = has_of us
port_call kind.Ordinary w (t ∷ []) us = method_of t w us
port_call kind.Ordinary w ts us = call_of w us
port_call (kind.OneVariable k) w (t ∷ []) us = method_of t w us
port_call (kind.OneVariable k) w ts us = call_of w us
port_call _ w ts us = None

-- if the call is well formed
abbrev pub if_formed : {A : Type 0} → Translated A → Option Term → Option Term
if_formed (Ok a) o = o
if_formed (Err e) o = None

abbrev mutual
  pub port_tree : Tree → Option Term
  port_tree (literal p v) = Some (term.literal v)
  port_tree (ident p x) = Some (term.ident x)
  port_tree (select p a false x) = option_map (λ u. term.select u x) (port_tree a)
  port_tree (select p a true x) = None
  port_tree (index p a false i) = both_of term.index (port_tree a) (port_tree i)
  port_tree (index p a true i) = None
  port_tree (unary p op a) = option_map (term.unary op) (port_tree a)
  port_tree (binary p op a b) = both_of (term.binary op) (port_tree a) (port_tree b)
  port_tree (conditional p c a b) = three_of (port_tree c) (port_tree a) (port_tree b)
  port_tree (round p a) = port_tree a
  port_tree (list_of p is) = option_map (λ us. term.list_of (terms_of us)) (port_items is)
  port_tree (map_of p es) = option_map (λ ps. term.map_with (pairs_of ps)) (port_entries es)
  port_tree (call p target w args) =
      let k = kind_of_call target w (count_of args) in
      if_formed (variables_of k args)
      (option_and_then (λ ts. option_and_then (port_call k w ts) (port_trees args)) (port_trees target))

  pub port_trees : Trees → Option (List Term)
  port_trees no_trees = Some []
  port_trees (tree_and t ts) = both_of (λ u us. u ∷ us) (port_tree t) (port_trees ts)

  pub port_items : Items → Option (List Term)
  port_items no_items = Some []
  port_items (item_and false t is) = both_of (λ u us. u ∷ us) (port_tree t) (port_items is)
  port_items (item_and true t is) = None

  pub port_entries : Entries → Option (List (Term × Term))
  port_entries no_entries = Some []
  port_entries (entry_and false a b es) = entry_of (port_tree a) (port_tree b) (port_entries es)
  port_entries (entry_and true a b es) = None

-- no name is known to be an optional
abbrev pub NoOptionals : Names → Type 0
NoOptionals names = (x : List ℕ) → is_optional_name names x ≡ false
