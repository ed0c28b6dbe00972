-- A table whose nodes stay the same, however their keywords are kept.
use Rattle.std.proofs.Common.{◌≡◌, ℕ, zero, suc, List, [], ◌∷◌, length, map, ◌||◌, is_some, Option, Some, None, option_map, slice_get, refl, sym, ap, ◌∙◌, subst}
use Rattle.std.proofs.Math.ListN.{set}
use Rattle.std.proofs.lemmas.List.{length-map}
use Rattle.std.proofs.lemmas.Option.{slice_get-map}
use Rattle.std.specs.List.{list_any}
use Rattle.kube_schema.specs.declared.nodes.Children.{Children}
use Rattle.kube_schema.specs.declared.nodes.TableNode.{TableNode}
use Rattle.kube_schema.specs.NoRules.{AreKnown, HasNoRulesBelow}
use Rattle.kube_schema.specs.Raw.{with_children, assemble, assemble_some, blank, tree_in, tree, any_default, IsWithin, Closed, LinksOrdered, AllOrdered, shape, AreSame}
use Rattle.kube_schema.specs.Tree.{Own, Node}

-- an element replaced by one of the same image
pub map_set : {A B : Type 0} (f : A → B) (xs : List A) (i : ℕ) (x y : A) → slice_get xs i ≡ Some x → f y ≡ f x → map f (set xs i y) ≡ map f xs
map_set f [] i x y e h = refl
map_set f (z ∷ xs) zero x y e h = let same : x ≡ z = cc in ap (λ b. b ∷ map f xs) (h ∙ ap f same)
map_set f (z ∷ xs) (suc i) x y e h = ap (λ bs. f z ∷ bs) (map_set f xs i x y e h)

-- the tree of a node, by its shape
abbrev by_shape : (ℕ → Node) → Option (Children × Own) → Node
by_shape f None = blank
by_shape f (Some p) = with_children f p.0 p.1

module _ {K : Type 0} (own_of : K → Own) where
  shaped : (f : ℕ → Node) (o : Option (TableNode K)) → assemble_some own_of f o ≡ by_shape f (option_map (shape own_of) o)
  unfolding assemble
  shaped f None = refl
  shaped f (Some r) = refl

  any_shaped : (t : List (TableNode K)) → any_default own_of t ≡ list_any (λ (p : Children × Own). is_some p.1.default) (map (shape own_of) t)
  any_shaped [] = refl
  any_shaped (r ∷ t) = ap (λ b. is_some (own_of r.keywords).default || b) (any_shaped t)

  -- a node that keeps its keywords otherwise
  pub same_set : (t : List (TableNode K)) (i : ℕ) (r s : TableNode K) → slice_get t i ≡ Some r → s.children ≡ r.children → own_of s.keywords ≡ own_of r.keywords → AreSame own_of own_of t (set t i s)
  same_set t i r s there children own = map_set (shape own_of) t i r s there (λ j. (children j, own j))

module _ {K L : Type 0} (own_of : K → Own) (own_in : L → Own) where
  pub same_length : (t : List (TableNode K)) (u : List (TableNode L)) → AreSame own_of own_in t u → length u ≡ length t
  same_length t u e = sym (length-map u (shape own_in)) ∙ ap length e ∙ length-map t (shape own_of)

  same_there : (t : List (TableNode K)) (u : List (TableNode L)) → AreSame own_of own_in t u → (i : ℕ) → option_map (shape own_in) (slice_get u i) ≡ option_map (shape own_of) (slice_get t i)
  same_there t u e i = sym (slice_get-map (shape own_in) u i) ∙ ap (λ xs. slice_get xs i) e ∙ slice_get-map (shape own_of) t i

  same_tree_in : (t : List (TableNode K)) (u : List (TableNode L)) → AreSame own_of own_in t u → (n i : ℕ) → tree_in own_in n u i ≡ tree_in own_of n t i
  unfolding tree_in
  same_tree_in t u e zero i = refl
  same_tree_in t u e (suc n) i =
      shaped own_in (tree_in own_in n u) (slice_get u i)
      ∙ (λ j. by_shape (λ c. same_tree_in t u e n c j) (same_there t u e i j))
      ∙ sym (shaped own_of (tree_in own_of n t) (slice_get t i))

  pub same_tree : (t : List (TableNode K)) (u : List (TableNode L)) → AreSame own_of own_in t u → (i : ℕ) → tree own_in u i ≡ tree own_of t i
  unfolding tree
  same_tree t u e i = ap (λ n. tree_in own_in n u i) (same_length t u e) ∙ same_tree_in t u e (length t) i

  -- a node of the second table has the children of one of the first
  children_there : (t : List (TableNode K)) (u : List (TableNode L)) → AreSame own_of own_in t u → (i : ℕ) (r : TableNode L) → slice_get u i ≡ Some r → (P : Children → Type 0) → ((s : TableNode K) → slice_get t i ≡ Some s → P s.children) → P r.children
  children_there t u e i r here P all = by (slice_get t i) refl (sym (same_there t u e i) ∙ ap (option_map (shape own_in)) here)
    where
      by : (o : Option (TableNode K)) → slice_get t i ≡ o → option_map (shape own_of) o ≡ Some (shape own_in r) → P r.children
      by None q h = absurd cc
      by (Some s) q h = let same : shape own_of s ≡ shape own_in r = cc in subst P (ap (λ (p : Children × Own). p.0) same) (all s q)

  pub same_closed : (t : List (TableNode K)) (u : List (TableNode L)) → AreSame own_of own_in t u → Closed t → Closed u
  same_closed t u e closed = λ i r here.
      subst (λ n. IsWithin (suc i) n r.children) (sym (same_length t u e)) (children_there t u e i r here (IsWithin (suc i) (length t)) (closed i))

  pub same_ordered : (t : List (TableNode K)) (u : List (TableNode L)) → AreSame own_of own_in t u → AllOrdered t → AllOrdered u
  same_ordered t u e ordered = λ i r here. children_there t u e i r here (λ c. LinksOrdered c.properties.items) (ordered i)

  pub same_default : (t : List (TableNode K)) (u : List (TableNode L)) → AreSame own_of own_in t u → any_default own_in u ≡ any_default own_of t
  same_default t u e = any_shaped own_in u ∙ ap (list_any (λ (p : Children × Own). is_some p.1.default)) e ∙ sym (any_shaped own_of t)

  pub same_known : (t : List (TableNode K)) (u : List (TableNode L)) → AreSame own_of own_in t u → (known : List (Option ℕ)) → AreKnown own_of t known → AreKnown own_in u known
  same_known t u e known all = λ i v h. subst (HasNoRulesBelow v) (sym (same_tree t u e i)) (all i v h)
