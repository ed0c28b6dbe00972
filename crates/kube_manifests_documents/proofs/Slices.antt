-- Slices that aren't empty.
use Rattle.std.proofs.Common.{◌≡◌, ◌==◌, List, [], ◌∷◌, length, true, false, Option, Some, None, refl, arith}
use Rattle.std.proofs.lemmas.Bool.Decides.{Decides-eqb}
use Rattle.kube_manifests_documents.specs.Definitions.{unless_none}
use Rattle.serde_json.specs.Data.{Items}
use Rattle.serde_json.specs.View.{items_view}
use Rattle.serde_json.specs.declared.value.Value.{Value}

pub there : (vs : List Value) → (length vs == 0) ≡ false → Some (items_view vs) ≡ unless_none (items_view vs)
there [] e = cc
there (v ∷ vs) e = refl

pub missing : (vs : List Value) → (length vs == 0) ≡ true → ◌≡◌ {A = Option Items} None (unless_none (items_view vs))
missing [] e = refl
missing (v ∷ vs) e =
    let none : length (v ∷ vs) ≡ 0 = (Decides-eqb (length (v ∷ vs)) 0).0 e in
    let no : ⊥ = omega (arith, none) in
    absurd no
