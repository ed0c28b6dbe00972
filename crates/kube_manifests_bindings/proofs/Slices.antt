-- Slices with and without items.
use Rattle.kube_manifests_bindings.specs.Faults.{FaultData, Missing, Beside}
use Rattle.kube_manifests_bindings.specs.Fields.{none_beside, unless_none}
use Rattle.serde_json.specs.Data.{Items}
use Rattle.serde_json.specs.View.{items_view}
use Rattle.serde_json.specs.declared.value.Value.{Value}
use Rattle.std.proofs.Common.{◌≡◌, ◌==◌, ℕ, List, [], ◌∷◌, length, true, false, Result, Ok, Err, refl, arith}
use Rattle.std.proofs.lemmas.Bool.Decides.{Decides-eqb}

no_more : (v : Value) (vs : List Value) → (length (v ∷ vs) == 0) ≡ true → ⊥
no_more v vs e =
    let none : length (v ∷ vs) ≡ 0 = (Decides-eqb (length (v ∷ vs)) 0).0 e in
    omega (arith, none)

pub missing : (p : List ℕ) (vs : List Value) → (length vs == 0) ≡ true
    → ◌≡◌ {A = Result Items FaultData} (Err (record { pointer = p; kind = Missing })) (unless_none p (items_view vs))
missing p [] e = refl
missing p (v ∷ vs) e = absurd (no_more v vs e)

pub there : (p : List ℕ) (vs : List Value) → (length vs == 0) ≡ false
    → ◌≡◌ {A = Result Items FaultData} (Ok (items_view vs)) (unless_none p (items_view vs))
there p [] e = cc
there p (v ∷ vs) e = refl

pub alone : (p other : List ℕ) (vs : List Value) → (length vs == 0) ≡ true
    → ◌≡◌ {A = Result (Unit {0}) FaultData} (Ok tt) (none_beside p other (items_view vs))
alone p other [] e = refl
alone p other (v ∷ vs) e = absurd (no_more v vs e)

pub beside : (p other : List ℕ) (vs : List Value) → (length vs == 0) ≡ false
    → ◌≡◌ {A = Result (Unit {0}) FaultData} (Err (record { pointer = p; kind = Beside other })) (none_beside p other (items_view vs))
beside p other [] e = cc
beside p other (v ∷ vs) e = refl
