-- Trusted by the clauses of other library calls.
-- Trees without rules, and what is known of the nodes of a table.
use Rattle.std.specs.Prelude.{◌≡◌, ℕ, zero, suc, List, [], ◌∷◌, Option, Some, slice_get, ⊤}
use mathlib.Core.Path.{refl, sym, subst, path_j, ◌∙◌}
use Rattle.kube_schema_rules.specs.declared.branches.BranchKind.{BranchKind}
use Rattle.kube_schema.specs.declared.nodes.TableNode.{TableNode}
use Rattle.kube_schema.specs.Raw.{tree}
use Rattle.kube_schema.specs.Tree.{Own, Node, own, property_of, items_of, additional_of, branches_of, nth_node}

-- P holds of each node that one step leads to
abbrev pub EachChild : (Node → Type 0) → Node → Type 0
EachChild P n =
    ((k : List ℕ) (m : Node) → property_of k n ≡ Some m → P m) × ((m : Node) → items_of n ≡ Some m → P m)
    × ((m : Node) → additional_of n ≡ Some m → P m)
    × ((kind : BranchKind) (i : ℕ) (m : Node) → nth_node i (branches_of kind n) ≡ Some m → P m)

-- the tree has at most n levels, and none of its nodes has a rule
unfoldable pub HasNoRules : ℕ → Node → Type 0
HasNoRules zero n = ⊥
HasNoRules (suc k) n = ((own n).validations ≡ []) × EachChild (HasNoRules k) n

-- below the node there are at most n levels, and no node there has a rule
abbrev pub HasNoRulesBelow : ℕ → Node → Type 0
HasNoRulesBelow n = EachChild (HasNoRules n)

-- of each node of the table a number of levels is known, or nothing
abbrev pub AreKnown : {K : Type 0} → (K → Own) → List (TableNode K) → List (Option ℕ) → Type 0
AreKnown own_of t known = (i : ℕ) (v : ℕ) → slice_get known i ≡ Some (Some v) → HasNoRulesBelow v (tree own_of t i)

-- ---- each of these has at most one proof

abbrev IsEmpty : {X : Type 0} → List X → Type 0
IsEmpty [] = ⊤
IsEmpty (x ∷ xs) = ⊥

empty_same : {X : Type 0} (xs ys : List X) → IsEmpty xs → IsEmpty ys → xs ≡ ys
empty_same [] [] p q = refl
empty_same [] (y ∷ ys) p q = absurd q
empty_same (x ∷ xs) ys p q = absurd p

empty_itself : {X : Type 0} (xs : List X) (p q : IsEmpty xs) → empty_same xs xs p q ≡ refl
unfolding empty_same
empty_itself [] p q = refl
empty_itself (x ∷ xs) p q = absurd p

empty_is : {X : Type 0} (xs ys : List X) (e : xs ≡ ys) (p : IsEmpty xs) (q : IsEmpty ys) → empty_same xs ys p q ≡ e
empty_is {X} xs ys e = path_j (λ (ys : List X) (e : xs ≡ ys). (p : IsEmpty xs) (q : IsEmpty ys) → empty_same xs ys p q ≡ e) (empty_itself xs) e

empty_prop : {X : Type 0} (xs : List X) → IsProp (xs ≡ [])
empty_prop xs p q = let h : IsEmpty xs = subst IsEmpty (sym p) tt in sym (empty_is xs [] p h tt) ∙ empty_is xs [] q h tt

no_rules_prop : (k : ℕ) (n : Node) → IsProp (HasNoRules k n)
unfolding HasNoRules
no_rules_prop zero n = hlevel
no_rules_prop (suc k) n = hlevel (empty_prop, no_rules_prop k)

pub known_prop : {K : Type 0} (own_of : K → Own) (t : List (TableNode K)) (known : List (Option ℕ)) → IsProp (AreKnown own_of t known)
known_prop own_of t known = hlevel no_rules_prop
