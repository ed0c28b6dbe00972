-- Items in turn, as a loop over a slice visits them.
use Rattle.std.proofs.Common.{◌≡◌, ◌+◌, ◌<◌, ◌≤◌, ℕ, suc, List, get_or, length, drop, map, Result, Ok, Err, sym, ap, ◌∙◌, add-one}
use Rattle.std.proofs.lemmas.List.{at_drop_all, at_drop_more}
use Rattle.kube_manifests_documents.specs.Definitions.{each}
use Rattle.kube_manifests_documents.specs.Faults.{◌>>=◌}
use Rattle.serde_json.specs.Data.{Data}
use Rattle.serde_json.specs.View.{items_of}

-- `seen` is the data of an element: of a value, or of a reference to one
module _ {A V E : Type 0} (seen : A → Data) (step : ℕ → Data → V → Result V E) where
  -- the result of the values from an index on
  abbrev pub onwards : ℕ → List A → V → Result V E
  onwards i vs had = each step i (items_of (map seen (drop i vs))) had

  first : (vs : List A) (i : ℕ) (v : A) (had : V) → i < length vs → v ≡ get_or vs i v
      → onwards i vs had ≡ (step i (seen v) had >>= λ w. onwards (i + 1) vs w)
  unfolding each
  first vs i v had below is =
      at_drop_more (λ ws. each step i (items_of (map seen ws)) had) vs i v below
      ∙ ap (λ w. step i (seen w) had >>= each step (suc i) (items_of (map seen (drop (i + 1) vs)))) (sym is)
      ∙ ap (λ k. step i (seen v) had >>= each step k (items_of (map seen (drop (i + 1) vs)))) (sym (add-one i))

  -- one step of the loop
  pub each_on : (vs : List A) (i : ℕ) (v : A) (had new : V) → i < length vs → v ≡ get_or vs i v → Ok new ≡ step i (seen v) had
      → onwards (i + 1) vs new ≡ onwards i vs had
  each_on vs i v had new below is says = sym (first vs i v had below is ∙ ap (λ r. r >>= λ w. onwards (i + 1) vs w) (sym says))

  -- a fault ends the loop
  pub each_stops : (vs : List A) (i : ℕ) (v : A) (had : V) (e : E) → i < length vs → v ≡ get_or vs i v → Err e ≡ step i (seen v) had
      → Err e ≡ onwards i vs had
  each_stops vs i v had e below is says = sym (first vs i v had below is ∙ ap (λ r. r >>= λ w. onwards (i + 1) vs w) (sym says))

  -- the loop is over after the last value
  pub each_ends : (vs : List A) (i : ℕ) (had : V) → length vs ≤ i → Ok had ≡ onwards i vs had
  unfolding each
  each_ends vs i had past = sym (at_drop_all (λ ws. each step i (items_of (map seen ws)) had) vs i past)
