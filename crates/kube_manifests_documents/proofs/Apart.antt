-- Versions of which no two have the same apiVersion and kind.
use Rattle.std.proofs.Common.{◌≡◌, ℕ, List, [], ◌∷◌, ◌++◌, Bool, true, false, ◌&&◌, ◌||◌, refl, sym, ap, ◌∙◌}
use Rattle.std.proofs.lemmas.List.Folds.{list_any-append}
use Rattle.std.proofs.lemmas.Slice.Eq.{bytes_eq-Decides}
use Rattle.std.specs.List.{list_any}
use Rattle.std.specs.Str.{bytes_eq}
use Rattle.kube_manifests_documents.specs.Versions.{Version, api_version, is_of_version}

abbrev pub IsApart : {S : Type 0} → List (Version S) → Type 0
IsApart [] = Unit {0}
IsApart (v ∷ vs) = (list_any (is_of_version (api_version v) v.kind) vs ≡ false) × IsApart vs

-- ---- one more version

pub neither : (a b : Bool) → (a || b) ≡ false → (a ≡ false) × (b ≡ false)
neither true b e = cc
neither false b e = (refl, e)

both : (a b : Bool) → (a && b) ≡ true → (a ≡ true) × (b ≡ true)
both true true e = (refl, refl)
both true false e = cc
both false b e = cc

false_by : (b : Bool) → (b ≡ true → ⊥) → b ≡ false
false_by true never = absurd (never refl)
false_by false never = refl

not_true : (b : Bool) → b ≡ false → b ≡ true → ⊥
not_true b wrong is = let e : true ≡ false = sym is ∙ wrong in cc

-- a version has this apiVersion and kind exactly if they equal its own
pub is_its : {S : Type 0} (text kind : List ℕ) (v : Version S) → is_of_version text kind v ≡ true → (api_version v ≡ text) × (v.kind ≡ kind)
is_its text kind v e =
    let parts = both (bytes_eq (api_version v) text) (bytes_eq v.kind kind) e in
    ((bytes_eq-Decides (api_version v) text).0 parts.0, (bytes_eq-Decides v.kind kind).0 parts.1)

equal_is : (a b c d : List ℕ) → a ≡ b → c ≡ d → (bytes_eq a b && bytes_eq c d) ≡ true
equal_is a b c d e f = ap (λ x. x && bytes_eq c d) ((bytes_eq-Decides a b).1 e) ∙ (bytes_eq-Decides c d).1 f

module _ {S : Type 0} where
  turned : (v w : Version S) → is_of_version (api_version v) v.kind w ≡ false → is_of_version (api_version w) w.kind v ≡ false
  turned v w e = false_by (is_of_version (api_version w) w.kind v) (λ is.
      let same = is_its (api_version w) w.kind v is in
      not_true (is_of_version (api_version v) v.kind w) e (equal_is (api_version w) (api_version v) w.kind v.kind (sym same.0) (sym same.1)))

  pub apart_more : (had : List (Version S)) (v : Version S) → IsApart had → list_any (is_of_version (api_version v) v.kind) had ≡ false → IsApart (had ++ v ∷ [])
  apart_more [] v apart e = (refl, tt)
  apart_more (w ∷ had) v (first, apart) e =
      let parts = neither (is_of_version (api_version v) v.kind w) (list_any (is_of_version (api_version v) v.kind) had) e in
      let last : (is_of_version (api_version w) w.kind v || false) ≡ false = ap (λ b. b || false) (turned v w parts.0) in (
        list_any-append (is_of_version (api_version w) w.kind) had (v ∷ [])
            ∙ ap (λ b. b || (is_of_version (api_version w) w.kind v || false)) first ∙ last,
        apart_more had v apart parts.1,
      )
