-- The properties of a node that are left after the first ones.
use Rattle.std.proofs.Common.{◌≡◌, ◌∙◌, ◌+◌, ◌≤◌, ℕ, zero, suc, List, length, Option, Some, None, refl, sym, ap, add-one, arith, Bool, false, ◌||◌, unwrap_or}
use Rattle.kube_schema.specs.Tree.{Node, Named, no_named, named, names, nth_named}
use Rattle.kube_cel_analysis.specs.Bounds.{first_bound, is_unbounded, has_unbounded}

abbrev pub rest : ℕ → Named → Named
rest zero ns = ns
rest (suc i) no_named = no_named
rest (suc i) (named k n ns) = rest i ns

same_first : (p q : List ℕ × Node) (ns : Named) → Some p ≡ Some q → named q.0 q.1 ns ≡ named p.0 p.1 ns
same_first p q ns e = let same : p ≡ q = cc in ap (λ (r : List ℕ × Node). named r.0 r.1 ns) (sym same)

rest_next : (i : ℕ) (ns : Named) (k : List ℕ) (n : Node) → Some (k, n) ≡ nth_named i ns → rest i ns ≡ named k n (rest (suc i) ns)
rest_next zero no_named k n e = cc
rest_next zero (named l m ns) k n e = same_first (k, n) (l, m) ns e
rest_next (suc i) no_named k n e = cc
rest_next (suc i) (named l m ns) k n e = rest_next i ns k n e

pub rest_at : (i : ℕ) (ns : Named) (k : List ℕ) (n : Node) → Some (k, n) ≡ nth_named i ns → rest i ns ≡ named k n (rest (i + 1) ns)
rest_at i ns k n e = rw add-one (rest_next i ns k n e)

pub rest_none : (i : ℕ) (ns : Named) → ◌≡◌ {A = Option (List ℕ × Node)} None (nth_named i ns) → rest i ns ≡ no_named
rest_none zero no_named e = refl
rest_none zero (named l m ns) e = cc
rest_none (suc i) no_named e = refl
rest_none (suc i) (named l m ns) e = rest_none i ns e

pub rest_past : (i : ℕ) (ns : Named) → length (names ns) ≤ i → rest i ns ≡ no_named
rest_past zero no_named h = refl
rest_past zero (named l m ns) h = let no : ⊥ = omega (arith, h) in absurd no
rest_past (suc i) no_named h = refl
rest_past (suc i) (named l m ns) h = rest_past i ns (omega (arith, h))

-- ---- the first bound among them

pub bound_here : (f : Node → Option ℕ) (i : ℕ) (ns : Named) (k : List ℕ) (n : Node) (b : ℕ) → Some (k, n) ≡ nth_named i ns → Some b ≡ f n → b ≡ first_bound f (rest i ns)
bound_here f i ns k n b e h = ap (λ o. unwrap_or o (first_bound f (rest (i + 1) ns))) h ∙ ap (first_bound f) (sym (rest_at i ns k n e))

pub bound_later : (f : Node → Option ℕ) (i : ℕ) (ns : Named) (k : List ℕ) (n : Node) → Some (k, n) ≡ nth_named i ns → None ≡ f n → first_bound f (rest (i + 1) ns) ≡ first_bound f (rest i ns)
bound_later f i ns k n e h = ap (λ o. unwrap_or o (first_bound f (rest (i + 1) ns))) h ∙ ap (first_bound f) (sym (rest_at i ns k n e))

pub no_bound_at : (f : Node → Option ℕ) (i : ℕ) (ns : Named) → ◌≡◌ {A = Option (List ℕ × Node)} None (nth_named i ns) → 1000 ≡ first_bound f (rest i ns)
no_bound_at f i ns e = ap (first_bound f) (sym (rest_none i ns e))

pub no_bound_past : (f : Node → Option ℕ) (i : ℕ) (ns : Named) → length (names ns) ≤ i → 1000 ≡ first_bound f (rest i ns)
no_bound_past f i ns h = ap (first_bound f) (sym (rest_past i ns h))

-- ---- unbounded lists among them

pub unbounded_at : (i : ℕ) (ns : Named) (k : List ℕ) (n : Node) (b : Bool) → Some (k, n) ≡ nth_named i ns → is_unbounded n ≡ b → (b || has_unbounded (rest (i + 1) ns)) ≡ has_unbounded (rest i ns)
unbounded_at i ns k n b e h = ap (λ b. b || has_unbounded (rest (i + 1) ns)) (sym h) ∙ ap has_unbounded (sym (rest_at i ns k n e))

pub bounded_at : (i : ℕ) (ns : Named) → ◌≡◌ {A = Option (List ℕ × Node)} None (nth_named i ns) → false ≡ has_unbounded (rest i ns)
bounded_at i ns e = ap has_unbounded (sym (rest_none i ns e))

pub bounded_past : (i : ℕ) (ns : Named) → length (names ns) ≤ i → false ≡ has_unbounded (rest i ns)
bounded_past i ns h = ap has_unbounded (sym (rest_past i ns h))
