-- The bindings at a place.
use Rattle.cel.proofs.Bound.{bound}
use Rattle.cel.specs.Bindings.{Bindings, binding}
use Rattle.cel_value.specs.Data.{Data, text}
use Rattle.kube_cel_walk.specs.Verdicts.{with_root}
use Rattle.kube_schema_rules.specs.Visit.{Root}
use Rattle.std.proofs.Common.{◌≡◌, ℕ, List, ◌∷◌, Option, Some, None, codes, if◌then◌else◌, refl, sym, ap, ◌∙◌}
use Rattle.std.specs.Str.{bytes_eq}

-- the names of the root context, one by one
pub rooted : (o : Option Root) (r : Root) (e0 e1 e2 e3 : Bindings) (v g k : Data) → o ≡ Some r → v ≡ text r.api_version → g ≡ text r.api_group → k ≡ text r.kind
    → ((x : List ℕ) → binding x e1 ≡ (if bytes_eq (codes "apiVersion") x then Some v else binding x e0))
    → ((x : List ℕ) → binding x e2 ≡ (if bytes_eq (codes "apiGroup") x then Some g else binding x e1))
    → ((x : List ℕ) → binding x e3 ≡ (if bytes_eq (codes "kind") x then Some k else binding x e2))
    → (x : List ℕ) → binding x e3 ≡ binding x (with_root o e0)
rooted o r e0 e1 e2 e3 v g k p pv pg pk h1 h2 h3 x =
    let f1 : Bindings = (codes "apiVersion", text r.api_version) ∷ e0 in
    let f2 : Bindings = (codes "apiGroup", text r.api_group) ∷ f1 in
    let q1 = bound x (codes "apiVersion") v (text r.api_version) (binding x e1) (binding x e0) e0 (h1 x) pv refl in
    let q2 = bound x (codes "apiGroup") g (text r.api_group) (binding x e2) (binding x e1) f1 (h2 x) pg q1 in
    bound x (codes "kind") k (text r.kind) (binding x e3) (binding x e2) f2 (h3 x) pk q2
    ∙ sym (ap (λ o. binding x (with_root o e0)) p)
