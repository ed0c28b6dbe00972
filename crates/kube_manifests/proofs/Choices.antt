-- The version that judges a value is the same in whatever form schemas are kept.
use Rattle.std.proofs.Common.{◌≡◌, ℕ, List, [], ◌∷◌, map, cond, Bool, true, false, Option, Some, None, option_map, Result, Ok, Err, refl, ap, ◌∙◌, if◌then◌else◌}
use Rattle.std.specs.List.{find, list_any}
use Rattle.std.specs.Prelude.{codes}
use Rattle.kube_manifests.proofs.Formed.{any_map, formed, mapped}
use Rattle.kube_manifests.specs.declared.judgement.NotJudged.TheVariants as reason
use Rattle.kube_manifests.specs.Versions.{chosen_version, chosen_by, if_served, is_of_kind}
use Rattle.kube_manifests_documents.specs.Versions.{Version, is_of_version, or_reason, text_at}
use Rattle.kube_schema.specs.Rules.{◌>>=◌}
use Rattle.serde_json.specs.Data.{Data}
use Rattle.serde_json.specs.Find.{as_object}

found_first : {A B : Type 0} (f : A → B) (b : Bool) (x : A) (o : Option B) (o' : Option A) → o ≡ option_map f o'
    → cond b (Some (f x)) o ≡ option_map f (cond b (Some x) o')
found_first f true x o o' h = refl
found_first f false x o o' h = h

find_map : {A B : Type 0} (f : A → B) (p : B → Bool) (xs : List A) → find p (map f xs) ≡ option_map f (find (λ x. p (f x)) xs)
find_map f p [] = refl
find_map f p (x ∷ xs) = found_first f (p (f x)) x (find p (map f xs)) (find (λ y. p (f y)) xs) (find_map f p xs)

module _ {S : Type 0} (form : Data → S) where
  served_alike : (b : Bool) (v : Version Data)
      → (if b then Ok (formed form v) else Err reason.NotServed) ≡ mapped (formed form) (if b then Ok v else Err reason.NotServed)
  served_alike true v = refl
  served_alike false v = refl

  if_served_alike : (known : Bool) (o : Option (Version Data)) → if_served known (option_map (formed form) o) ≡ mapped (formed form) (if_served known o)
  if_served_alike known None = refl
  if_served_alike known (Some v) = served_alike v.served v

  by_alike : (vs : List (Version Data)) (text kind : List ℕ) → chosen_by (map (formed form) vs) text kind ≡ mapped (formed form) (chosen_by vs text kind)
  by_alike vs text kind =
      ap (λ b. if_served b (find (is_of_version text kind) (map (formed form) vs))) (any_map (formed form) (is_of_kind text kind) vs)
      ∙ ap (if_served (list_any (is_of_kind text kind) vs)) (find_map (formed form) (is_of_version text kind) vs)
      ∙ if_served_alike (list_any (is_of_kind text kind) vs) (find (is_of_version text kind) vs)

  go_on : {A V W E : Type 0} (g : V → W) (r : Result A E) (k : A → Result V E) (k' : A → Result W E) → ((a : A) → k' a ≡ mapped g (k a))
      → (r >>= k') ≡ mapped g (r >>= k)
  go_on g (Ok a) k k' h = h a
  go_on g (Err e) k k' h = refl

  pub chosen_alike : (vs : List (Version Data)) (value : Data) → chosen_version (map (formed form) vs) value ≡ mapped (formed form) (chosen_version vs value)
  unfolding chosen_version
  chosen_alike vs value =
      go_on (formed form) (or_reason reason.NotAnObject (as_object value)) _ _ (λ members.
      go_on (formed form) (or_reason reason.NoApiVersion (text_at (codes "apiVersion") value)) _ _ (λ text.
      go_on (formed form) (or_reason reason.NoKind (text_at (codes "kind") value)) _ _ (λ kind. by_alike vs text kind)))
