-- A table in which no node has a default.
use Rattle.std.proofs.Common.{◌≡◌, ℕ, zero, suc, List, [], ◌∷◌, length, Bool, true, false, ◌||◌, if◌then◌else◌, is_some, Option, Some, None, option_map, slice_get, string_bytes, nat_cmp, Ordering, Less, Equal, Greater, refl, sym, ap, ◌∙◌, subst}
use Rattle.std.specs.Option.{option_or}
use Rattle.std.specs.Cmp.Lexicographic.{slice_cmp}
use Rattle.std.specs.Ordering.{match_ordering}
use Rattle.serde_json.specs.Data.{Data}
use Rattle.kube_schema_values.specs.Defaults.{member_schema}
use Rattle.kube_schema_values.specs.Without.{HasNoDefaults}
use Rattle.kube_schema.specs.declared.nodes.NodeId.{NodeId}
use Rattle.kube_schema.specs.declared.nodes.PropertyLink.{PropertyLink}
use Rattle.kube_schema.specs.declared.nodes.TableNode.{TableNode}
use Rattle.kube_schema.specs.CompiledDefaults.{tree_accessors}
use Rattle.kube_schema.specs.Raw.{named_at, maybe_at, with_children, assemble, assemble_some, blank, tree_in, tree, any_default, has_default}
use Rattle.kube_schema.specs.Tree.{Own, Node, as_option, find, default_of}
use Rattle.kube_schema.proofs.Trees.{default_at}

-- ---- each child of a node is given by a number

found_named : (f : ℕ → Node) (k : List ℕ) (ls : List PropertyLink) (p : Node) → find k (named_at f ls) ≡ Some p → (j : ℕ) × (p ≡ f j)
found_named f k [] p e = absurd cc
found_named f k (l ∷ ls) p e = by (slice_cmp nat_cmp k (string_bytes l.name)) (found_named f k ls p) e
  where
    by : (o : Ordering) → (find k (named_at f ls) ≡ Some p → (j : ℕ) × (p ≡ f j)) → match_ordering o (find k (named_at f ls)) (Some (f l.node.0)) (find k (named_at f ls)) ≡ Some p → (j : ℕ) × (p ≡ f j)
    by Less r e = r e
    by Equal r e = let same : p ≡ f l.node.0 = cc in (l.node.0, same)
    by Greater r e = r e

found_maybe : (f : ℕ → Node) (o : Option NodeId) (p : Node) → as_option (maybe_at f o) ≡ Some p → (j : ℕ) × (p ≡ f j)
found_maybe f None p e = absurd cc
found_maybe f (Some n) p e = let same : p ≡ f n.0 = cc in (n.0, same)

found_member : (f : ℕ → Node) (p : Node) (a : Option Node) (b : Bool) (o : Option NodeId) → (a ≡ Some p → (j : ℕ) × (p ≡ f j)) → option_or a (if b then None else as_option (maybe_at f o)) ≡ Some p → (j : ℕ) × (p ≡ f j)
found_member f p (Some q) b o h e = h e
found_member f p None true o h e = absurd cc
found_member f p None false o h e = found_maybe f o p e

-- ---- one level, if the numbers stand for nodes without a default

module _ {K : Type 0} (own_of : K → Own) where
  node_without : (m : ℕ) (f : ℕ → Node) (r : TableNode K) → ((j : ℕ) → default_of (f j) ≡ None) → ((j : ℕ) → HasNoDefaults tree_accessors m (f j)) → HasNoDefaults tree_accessors (suc m) (assemble own_of f r)
  unfolding HasNoDefaults tree_accessors assemble with_children member_schema
  node_without m f r none below = (
    λ k p e. let at = found_named f k r.children.properties.items p e in ap default_of at.1 ∙ none at.0,
    λ k p e.
        let at = found_member f p (find k (named_at f r.children.properties.items)) (own_of r.keywords).preserves r.children.additional (found_named f k r.children.properties.items p) e in
        subst (HasNoDefaults tree_accessors m) (sym at.1) (below at.0),
    λ p e. let at = found_maybe f r.children.items p e in subst (HasNoDefaults tree_accessors m) (sym at.1) (below at.0),
  )

blank_without : (m : ℕ) → HasNoDefaults tree_accessors (suc m) blank
unfolding HasNoDefaults tree_accessors member_schema
blank_without m = (λ k p e. absurd cc, λ k p e. absurd cc, λ p e. absurd cc)

-- ---- a table

left_false : (a b : Bool) → (a || b) ≡ false → a ≡ false
left_false true b e = cc
left_false false b e = refl

right_false : (a b : Bool) → (a || b) ≡ false → b ≡ false
right_false true b e = cc
right_false false b e = e

is_none : (o : Option Data) → is_some o ≡ false → o ≡ None
is_none None e = refl
is_none (Some v) e = cc

module _ {K : Type 0} (own_of : K → Own) where
  none_here : (t : List (TableNode K)) (i : ℕ) (r : TableNode K) → any_default own_of t ≡ false → slice_get t i ≡ Some r → (own_of r.keywords).default ≡ None
  none_here [] i r h e = absurd cc
  none_here (x ∷ t) zero r h e = let same : x ≡ r = cc in ap (λ (r : TableNode K). (own_of r.keywords).default) (sym same) ∙ is_none (own_of x.keywords).default (left_false (has_default own_of x) (any_default own_of t) h)
  none_here (x ∷ t) (suc i) r h e = none_here t i r (right_false (has_default own_of x) (any_default own_of t) h) e

  module _ (t : List (TableNode K)) (none : any_default own_of t ≡ false) where
    default_none : (n i : ℕ) → default_of (tree_in own_of n t i) ≡ None
    unfolding tree_in
    default_none zero i = refl
    default_none (suc n) i = by (slice_get t i) refl
      where
        by : (o : Option (TableNode K)) → slice_get t i ≡ o → default_of (assemble_some own_of (tree_in own_of n t) o) ≡ None
        by None e = refl
        by (Some r) e = default_at own_of (tree_in own_of n t) r ∙ none_here t i r none e

    level_without : (m : ℕ) (f : ℕ → Node) (o : Option (TableNode K)) → ((j : ℕ) → default_of (f j) ≡ None) → ((j : ℕ) → HasNoDefaults tree_accessors m (f j)) → HasNoDefaults tree_accessors (suc m) (assemble_some own_of f o)
    level_without m f None h below = blank_without m
    level_without m f (Some r) h below = node_without own_of m f r h below

    tree_in_without : (m n i : ℕ) → HasNoDefaults tree_accessors m (tree_in own_of n t i)
    unfolding HasNoDefaults tree_in
    tree_in_without zero n i = tt
    tree_in_without (suc m) zero i = blank_without m
    tree_in_without (suc m) (suc n) i = level_without m (tree_in own_of n t) (slice_get t i) (default_none n) (tree_in_without m n)

    pub tree_without : (m i : ℕ) → HasNoDefaults tree_accessors m (tree own_of t i)
    unfolding tree
    tree_without m i = tree_in_without m (length t) i
