-- Lists and choices of versions, in whatever form their schemas are kept.
use Rattle.std.proofs.Common.{◌≡◌, ℕ, suc, List, [], ◌∷◌, map, Bool, ◌||◌, Option, Some, Result, Ok, Err, option_map, refl, ap, if◌then◌else◌}
use Rattle.std.specs.List.{list_any}
use Rattle.kube_manifests_documents.specs.Versions.{Version}
use Rattle.kube_manifests_texts.specs.Positions.{first_at}
use Rattle.serde_json.specs.Data.{Data}

abbrev pub mapped : {A B E : Type 0} → (A → B) → Result A E → Result B E
mapped f (Ok a) = Ok (f a)
mapped f (Err e) = Err e

pub any_map : {A B : Type 0} (f : A → B) (p : B → Bool) (xs : List A) → list_any p (map f xs) ≡ list_any (λ x. p (f x)) xs
any_map f p [] = refl
any_map f p (x ∷ xs) = ap (λ b. p (f x) || b) (any_map f p xs)

pub first_map : {A B : Type 0} (f : A → B) (p : B → Bool) (xs : List A) → first_at p (map f xs) ≡ first_at (λ x. p (f x)) xs
first_map f p [] = refl
first_map f p (x ∷ xs) = ap (λ o. if p (f x) then Some 0 else option_map suc o) (first_map f p xs)

module _ {S : Type 0} (form : Data → S) where
  -- a version with its schema in the other form
  abbrev pub formed : Version Data → Version S
  formed v = record { group = v.group; kind = v.kind; name = v.name; served = v.served; schema = form v.schema }
