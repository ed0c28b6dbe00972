-- Loops over the items of a JSON list.
use Rattle.std.proofs.Common.{◌≡◌, ◌<◌, ◌≤◌, ◌+◌, ℕ, true, zero, suc, List, [], ◌∷◌, ◌++◌, drop, get_or, length, refl, sym, ap, ◌∙◌, add-one, arith}
use Rattle.std.proofs.Math.Seq.{drop-cons}
use Rattle.kube_manifests_review.proofs.Steps.{no_more, one_more}
use Rattle.kube_manifests_review.specs.Reviewed.{any_item}
use Rattle.serde_json.specs.Data.{Data, Items, no_items, item}
use Rattle.serde_json.specs.View.{items_view, view}
use Rattle.serde_json.specs.declared.value.Value.{Value}

items_at : (vs : List Value) (i : ℕ) (v : Value) → i < length vs → v ≡ get_or vs i v → items_view (drop i vs) ≡ item (view v) (items_view (drop (i + 1) vs))
items_at vs i v h e =
    ap items_view (drop-cons vs i v h) ∙ ap (λ w. item (view w) (items_view (drop (suc i) vs))) (sym e)
    ∙ ap (λ j. item (view v) (items_view (drop j vs))) (sym (add-one i))

items_past : (vs : List Value) (i : ℕ) → length vs ≤ i → items_view (drop i vs) ≡ no_items
items_past [] zero h = refl
items_past [] (suc i) h = refl
items_past (v ∷ vs) zero h = let no : ⊥ = omega (arith, h) in absurd no
items_past (v ∷ vs) (suc i) h = items_past vs i (omega (arith, h))

-- G of the items from the i-th on concatenates X of each
module _ {A : Type 0} (G : ℕ → Items → List A) (X : ℕ → Data → List A) where
  pub next_item : ((i : ℕ) (d : Data) (ds : Items) → G i (item d ds) ≡ X i d ++ G (suc i) ds) → (vs : List Value) (i : ℕ) (v : Value) (new had all : List A) → i < length vs → v ≡ get_or vs i v
      → new ≡ had ++ X i (view v) → had ++ G i (items_view (drop i vs)) ≡ all → new ++ G (i + 1) (items_view (drop (i + 1) vs)) ≡ all
  next_item law vs i v new had all h e n k =
      let rest = items_view (drop (i + 1) vs) in
      let stepped : G i (items_view (drop i vs)) ≡ X i (view v) ++ G (i + 1) rest =
      ap (G i) (items_at vs i v h e) ∙ law i (view v) rest ∙ ap (λ j. X i (view v) ++ G j rest) (sym (add-one i)) in
      one_more new had (X i (view v)) (G (i + 1) rest) all n (ap (λ xs. had ++ xs) (sym stepped) ∙ k)

  pub last_item : ((i : ℕ) → G i no_items ≡ []) → (vs : List Value) (i : ℕ) (new all : List A) → length vs ≤ i → new ++ G i (items_view (drop i vs)) ≡ all → new ≡ all
  last_item law vs i new all h k = no_more new (G i (items_view (drop i vs))) all (ap (G i) (items_past vs i h) ∙ law i) k

pub some_item : (vs : List Value) → 1 ≤ length vs → any_item (items_view vs) ≡ true
some_item [] h = let no : ⊥ = omega (arith, h) in absurd no
some_item (v ∷ vs) h = refl
