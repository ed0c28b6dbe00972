-- What is known of a table: trees without rules, from the trees within them.
use Rattle.std.proofs.Common.{◌≡◌, ◌⊎◌, inl, inr, ℕ, zero, suc, ◌+◌, ◌<◌, ◌≤◌, List, [], ◌∷◌, length, map, Option, Some, None, SomeIff, IfSome, slice_get, string_bytes, nat_cmp, Ordering, Less, Equal, Greater, refl, sym, ap, ◌∙◌, subst, arith}
use Rattle.std.proofs.Math.ListN.{set, replicate}
use Rattle.std.proofs.lemmas.Bool.{cases_eq}
use Rattle.std.proofs.lemmas.Option.{same_Some}
use Rattle.std.specs.Cmp.Lexicographic.{slice_cmp}
use Rattle.std.specs.Ordering.{match_ordering}
use Rattle.kube_schema_rules.specs.declared.branches.BranchKind.{BranchKind}
use Rattle.kube_schema_rules.specs.declared.branches.BranchKind.TheVariants.{AllOf, OneOf, AnyOf}
use Rattle.kube_schema.specs.declared.nodes.NodeId.{NodeId}
use Rattle.kube_schema.specs.declared.nodes.PropertyLink.{PropertyLink}
use Rattle.kube_schema.specs.declared.nodes.TableNode.{TableNode}
use Rattle.kube_schema.specs.NoRules.{EachChild, HasNoRules, HasNoRulesBelow, AreKnown}
use Rattle.kube_schema.specs.Raw.{named_at, maybe_at, nodes_at, with_children, assemble, tree, Closed}
use Rattle.kube_schema.specs.Tree.{Own, Node, own, as_option, find, nth_node, branches_of}
use Rattle.kube_schema.proofs.Trees.{opens}

-- ---- more levels

each_child : (P Q : Node → Type 0) (n : Node) → ((m : Node) → P m → Q m) → EachChild P n → EachChild Q n
each_child P Q n f h = (λ k m e. f m (h.0 k m e), λ m e. f m (h.1 m e), λ m e. f m (h.2 m e), λ kind i m e. f m (h.3 kind i m e))

pub no_rules_more : (k l : ℕ) (n : Node) → k ≤ l → HasNoRules k n → HasNoRules l n
unfolding HasNoRules
no_rules_more zero l n h q = absurd q
no_rules_more (suc k) zero n h q = absurd (omega arith)
no_rules_more (suc k) (suc l) n h q = (q.0, each_child (HasNoRules k) (HasNoRules l) n (λ m. no_rules_more k l m (omega arith)) q.1)

pub no_rules_below_more : (k l : ℕ) (n : Node) → k ≤ l → HasNoRulesBelow k n → HasNoRulesBelow l n
no_rules_below_more k l n h = each_child (HasNoRules k) (HasNoRules l) n (λ m. no_rules_more k l m h)

-- ---- what holds of the tree of each number holds of each child

module _ (P : Node → Type 0) (f : ℕ → Node) where
  found_link : (ls : List PropertyLink) → ((i : ℕ) (l : PropertyLink) → slice_get ls i ≡ Some l → P (f l.node.0)) → (k : List ℕ) (p : Node) → find k (named_at f ls) ≡ Some p → P p
  found_link [] all k p e = absurd cc
  found_link (l ∷ ls) all k p e = by (slice_cmp nat_cmp k (string_bytes l.name)) (found_link ls (λ i. all (suc i)) k p) e
    where
      by : (o : Ordering) → (find k (named_at f ls) ≡ Some p → P p) → match_ordering o (find k (named_at f ls)) (Some (f l.node.0)) (find k (named_at f ls)) ≡ Some p → P p
      by Less r e = r e
      by Equal r e = let same : f l.node.0 ≡ p = cc in subst P same (all 0 l refl)
      by Greater r e = r e

  found_maybe : (o : Option NodeId) → ((n : NodeId) → o ≡ Some n → P (f n.0)) → (p : Node) → as_option (maybe_at f o) ≡ Some p → P p
  found_maybe None all p e = absurd cc
  found_maybe (Some n) all p e = let same : f n.0 ≡ p = cc in subst P same (all n refl)

  found_number : (ns : List NodeId) → ((i : ℕ) (n : NodeId) → slice_get ns i ≡ Some n → P (f n.0)) → (i : ℕ) (p : Node) → nth_node i (nodes_at f ns) ≡ Some p → P p
  found_number [] all i p e = absurd cc
  found_number (n ∷ ns) all zero p e = let same : f n.0 ≡ p = cc in subst P same (all 0 n refl)
  found_number (n ∷ ns) all (suc i) p e = found_number ns (λ j. all (suc j)) i p e

  module _ {K : Type 0} (own_of : K → Own) where
    pub each_assembled : (r : TableNode K)
        → ((i : ℕ) (l : PropertyLink) → slice_get r.children.properties.items i ≡ Some l → P (f l.node.0))
        → ((n : NodeId) → r.children.items ≡ Some n → P (f n.0))
        → ((n : NodeId) → r.children.additional ≡ Some n → P (f n.0))
        → ((i : ℕ) (n : NodeId) → slice_get r.children.all_of.items i ≡ Some n → P (f n.0))
        → ((i : ℕ) (n : NodeId) → slice_get r.children.one_of.items i ≡ Some n → P (f n.0))
        → ((i : ℕ) (n : NodeId) → slice_get r.children.any_of.items i ≡ Some n → P (f n.0))
        → EachChild P (assemble own_of f r)
    unfolding assemble with_children
    each_assembled r ps it ad xs ys zs = (found_link r.children.properties.items ps, found_maybe r.children.items it, found_maybe r.children.additional ad, by)
      where
        by : (kind : BranchKind) (i : ℕ) (m : Node) → nth_node i (branches_of kind (assemble own_of f r)) ≡ Some m → P m
        by AllOf = found_number r.children.all_of.items xs
        by OneOf = found_number r.children.one_of.items ys
        by AnyOf = found_number r.children.any_of.items zs

-- ---- a node, from what is known of it

pub none_of : {X : Type 0} (xs : List X) → length xs ≡ 0 → xs ≡ []
none_of [] e = refl
none_of (x ∷ xs) e = absurd (omega arith)

module _ {K : Type 0} (own_of : K → Own) where
  -- a node without rules of its own, and with none below it
  pub no_rules_at : (t : List (TableNode K)) (i v w : ℕ) (r : TableNode K) → Closed t → slice_get t i ≡ Some r → (own_of r.keywords).validations ≡ [] → HasNoRulesBelow v (tree own_of t i) → w ≡ suc v → HasNoRules w (tree own_of t i)
  unfolding HasNoRules assemble with_children
  no_rules_at t i v w r closed e none below more =
      subst (λ w. HasNoRules w (tree own_of t i)) (sym more) (ap (λ n. (own n).validations) (opens own_of t i r closed e) ∙ none, below)

-- ---- the greatest number of levels, element by element

pub no_rules_in_all : {X : Type 0} (g : X → Node) (xs : List X) (k : ℕ) (x : X) (most levels next : ℕ) → slice_get xs k ≡ Some x → most ≤ next → levels ≤ next → ((i : ℕ) (y : X) → i < k → slice_get xs i ≡ Some y → HasNoRules most (g y)) → HasNoRules levels (g x)
    → (i : ℕ) (y : X) → i < k + 1 → slice_get xs i ≡ Some y → HasNoRules next (g y)
no_rules_in_all {X} g xs k x most levels next here a b all one = λ i y h e. by i y h e (cases_eq i k)
  where
    by : (i : ℕ) (y : X) → i < k + 1 → slice_get xs i ≡ Some y → (i ≡ k) ⊎ (i ≡ k → ⊥) → HasNoRules next (g y)
    by i y h e (inl same) = let it : x ≡ y = same_Some x y (sym here ∙ ap (slice_get xs) (sym same) ∙ e) in subst (λ y. HasNoRules next (g y)) it (no_rules_more levels next (g x) b one)
    by i y h e (inr other) = no_rules_more most next (g y) a (all i y (omega arith) e)

pub no_rules_in_numbers : (k l : ℕ) (f : ℕ → Node) (ns ms : List NodeId) → k ≤ l → ns ≡ ms → ((i : ℕ) (n : NodeId) → slice_get ns i ≡ Some n → HasNoRules k (f n.0)) → (i : ℕ) (n : NodeId) → slice_get ms i ≡ Some n → HasNoRules l (f n.0)
no_rules_in_numbers k l f ns ms h same all i n e = no_rules_more k l (f n.0) h (all i n (ap (λ (ns : List NodeId). slice_get ns i) same ∙ e))

-- ---- a sum that fits

pub if_fits : (r : Option ℕ) (P : Type 0) (v : ℕ) (Q : ℕ → Type 0) → SomeIff r P v → Q v → IfSome r Q
if_fits None P v Q h q = tt
if_fits (Some x) P v Q h q = subst Q (sym h.1) q

-- ---- a table of what is known

-- an entry of the changed list is an old one or the new one
set_or_old : {X : Type 0} (xs : List X) (p : ℕ) (x y : X) (i : ℕ) → slice_get (set xs p x) i ≡ Some y → (slice_get xs i ≡ Some y) ⊎ ((i ≡ p) × (x ≡ y))
set_or_old [] p x y i e = absurd cc
set_or_old (z ∷ xs) zero x y zero e = inr (refl, cc)
set_or_old (z ∷ xs) zero x y (suc i) e = inl e
set_or_old (z ∷ xs) (suc p) x y zero e = inl e
set_or_old (z ∷ xs) (suc p) x y (suc i) e = step (set_or_old xs p x y i e)
  where
    step : (slice_get xs i ≡ Some y) ⊎ ((i ≡ p) × (x ≡ y)) → (slice_get xs i ≡ Some y) ⊎ ((suc i ≡ suc p) × (x ≡ y))
    step (inl h) = inl h
    step (inr h) = inr (ap suc h.0, h.1)

module _ {K : Type 0} (own_of : K → Own) where
  pub known_set : (t : List (TableNode K)) (known : List (Option ℕ)) (p : ℕ) (o : Option ℕ) (r : TableNode K) → Closed t → slice_get t p ≡ Some r → AreKnown own_of t known → IfSome o (λ v. HasNoRulesBelow v (assemble own_of (tree own_of t) r)) → AreKnown own_of t (set known p o)
  known_set t known p o r closed e all one = λ i v h. by i v (set_or_old known p o (Some v) i h)
    where
      by : (i v : ℕ) → (slice_get known i ≡ Some (Some v)) ⊎ ((i ≡ p) × (o ≡ Some v)) → HasNoRulesBelow v (tree own_of t i)
      by i v (inl h) = all i v h
      by i v (inr h) =
          let here : HasNoRulesBelow v (assemble own_of (tree own_of t) r) = subst (λ o. IfSome o (λ v. HasNoRulesBelow v (assemble own_of (tree own_of t) r))) h.1 one in
          subst (λ j. HasNoRulesBelow v (tree own_of t j)) (sym h.0) (subst (HasNoRulesBelow v) (sym (opens own_of t p r closed e)) here)

none_known : (n i v : ℕ) → slice_get (replicate {A = Option ℕ} n None) i ≡ Some (Some v) → ⊥
none_known zero i v e = cc
none_known (suc n) zero v e = cc
none_known (suc n) (suc i) v e = none_known n i v e

module _ {K : Type 0} (own_of : K → Own) where
  -- at the start nothing is known
  pub known_start : (t : List (TableNode K)) (n : ℕ) → AreKnown own_of t (replicate {A = Option ℕ} n None)
  known_start t n = λ i v e. absurd (none_known n i v e)
