-- Two groups of documents: their order makes no difference to the version that judges an object.
use Rattle.std.proofs.Common.{◌≡◌, ℕ, List, [], ◌∷◌, ◌++◌, cond, Bool, true, false, ◌||◌, ◌⊎◌, inl, inr, Option, Some, None, Result, Ok, Err, refl, subst, sym, ap, ◌∙◌, append_assoc}
use Rattle.std.proofs.lemmas.List.Folds.{find-append, list_any-append}
use Rattle.std.proofs.Math.Bool.{or_comm}
use Rattle.std.specs.List.{find, list_any}
use Rattle.std.specs.Option.{option_or}
use Rattle.std.specs.Prelude.{codes}
use Rattle.kube_manifests.specs.declared.judgement.NotJudged.TheVariants as reason
use Rattle.kube_manifests.specs.Versions.{chosen_version, chosen_by, if_served, is_of_kind}
use Rattle.kube_manifests_documents.proofs.Apart.{IsApart, is_its, neither}
use Rattle.kube_manifests_documents.proofs.Listed.{all_adds, versions_listed}
use Rattle.kube_manifests_documents.specs.Definitions.{versions_of}
use Rattle.kube_manifests_documents.specs.DocumentVersions.{document_versions, from_each_item}
use Rattle.kube_manifests_documents.specs.Versions.{Version, api_version, is_of_version, or_reason, text_at}
use Rattle.kube_schema.specs.Rules.{◌>>=◌}
use Rattle.serde_json.specs.Data.{Data}
use Rattle.serde_json.specs.Find.{as_object}
use Rattle.serde_json.specs.View.{items_of}

go_on : {A V E : Type 0} (r : Result A E) (k k' : A → Result V E) → ((a : A) → k a ≡ k' a) → (r >>= k) ≡ (r >>= k')
go_on (Ok a) k k' h = h a
go_on (Err e) k k' h = refl

module _ {S : Type 0} where
  none_of : (p : Version S → Bool) (vs : List (Version S)) → list_any p vs ≡ false → find p vs ≡ None
  none_of p [] e = refl
  none_of p (v ∷ vs) e =
      let parts = neither (p v) (list_any p vs) e in
      ap (λ b. cond b (Some v) (find p vs)) parts.0 ∙ none_of p vs parts.1

  behind : (p : Version S → Bool) (xs ys : List (Version S)) → list_any p (xs ++ ys) ≡ false → find p ys ≡ None
  behind p xs ys e = none_of p ys (neither (list_any p xs) (list_any p ys) (sym (list_any-append p xs ys) ∙ e)).1

  one_of : (text kind : List ℕ) (v : Version S) (xs ys : List (Version S)) (b : Bool) → is_of_version text kind v ≡ b
      → list_any (is_of_version (api_version v) v.kind) (xs ++ ys) ≡ false
      → (find (is_of_version text kind) xs ≡ None) ⊎ (find (is_of_version text kind) ys ≡ None)
      → (cond b (Some v) (find (is_of_version text kind) xs) ≡ None) ⊎ (find (is_of_version text kind) ys ≡ None)
  one_of text kind v xs ys true is e rest =
      let same = is_its text kind v is in
      let moved : list_any (is_of_version text kind) (xs ++ ys) ≡ false =
      ap (λ t. list_any (is_of_version t kind) (xs ++ ys)) (sym same.0) ∙ ap (λ k. list_any (is_of_version (api_version v) k) (xs ++ ys)) (sym same.1) ∙ e in
      inr (behind (is_of_version text kind) xs ys moved)
  one_of text kind v xs ys false is e rest = rest

  either : (text kind : List ℕ) (xs ys : List (Version S)) → IsApart (xs ++ ys)
      → (find (is_of_version text kind) xs ≡ None) ⊎ (find (is_of_version text kind) ys ≡ None)
  either text kind [] ys apart = inl refl
  either text kind (v ∷ xs) ys (first, apart) = one_of text kind v xs ys (is_of_version text kind v) refl first (either text kind xs ys apart)

  none_last : (o : Option (Version S)) → option_or o None ≡ o
  none_last None = refl
  none_last (Some v) = refl

  options_alike : (o p : Option (Version S)) → (o ≡ None) ⊎ (p ≡ None) → option_or o p ≡ option_or p o
  options_alike o p (inl e) = ap (λ x. option_or x p) e ∙ sym (none_last p) ∙ ap (option_or p) (sym e)
  options_alike o p (inr e) = ap (option_or o) e ∙ none_last o ∙ ap (λ x. option_or x o) (sym e)

  by_alike : (text kind : List ℕ) (xs ys : List (Version S)) → IsApart (xs ++ ys) → chosen_by (xs ++ ys) text kind ≡ chosen_by (ys ++ xs) text kind
  by_alike text kind xs ys apart =
      let known = is_of_kind text kind in
      let own = is_of_version text kind in
      let same_known : list_any known (xs ++ ys) ≡ list_any known (ys ++ xs) =
      list_any-append known xs ys ∙ or_comm (list_any known xs) (list_any known ys) ∙ sym (list_any-append known ys xs) in
      let same_found : find own (xs ++ ys) ≡ find own (ys ++ xs) =
      find-append own xs ys ∙ options_alike (find own xs) (find own ys) (either text kind xs ys apart) ∙ sym (find-append own ys xs) in
      ap (λ b. if_served b (find own (xs ++ ys))) same_known ∙ ap (if_served (list_any known (ys ++ xs))) same_found

  pub swapped : (xs ys : List (Version S)) → IsApart (xs ++ ys) → (value : Data) → chosen_version (xs ++ ys) value ≡ chosen_version (ys ++ xs) value
  unfolding chosen_version
  swapped xs ys apart value =
      go_on (or_reason reason.NotAnObject (as_object value)) _ _ (λ ms.
      go_on (or_reason reason.NoApiVersion (text_at (codes "apiVersion") value)) _ _ (λ text.
      go_on (or_reason reason.NoKind (text_at (codes "kind") value)) _ _ (λ kind. by_alike text kind xs ys apart)))

-- ---- two groups of documents in either order

joined_append : (ds es : List Data) → from_each_item document_versions (items_of (ds ++ es)) ≡ from_each_item document_versions (items_of ds) ++ from_each_item document_versions (items_of es)
joined_append [] es = refl
joined_append (d ∷ ds) es =
    ap (λ vs. document_versions d ++ vs) (joined_append ds es)
    ∙ sym (append_assoc (document_versions d) (from_each_item document_versions (items_of ds)) (from_each_item document_versions (items_of es)))

pub either_order : (ds es : List Data) (versions others : List (Version Data)) → versions_of (items_of (ds ++ es)) ≡ Ok versions
    → versions_of (items_of (es ++ ds)) ≡ Ok others → (value : Data) → chosen_version versions value ≡ chosen_version others value
either_order ds es versions others e f value =
    let first = from_each_item document_versions (items_of ds) in
    let second = from_each_item document_versions (items_of es) in
    let these : versions ≡ first ++ second = versions_listed (items_of (ds ++ es)) versions e ∙ joined_append ds es in
    let those : others ≡ second ++ first = versions_listed (items_of (es ++ ds)) others f ∙ joined_append es ds in
    let apart : IsApart (first ++ second) = subst IsApart these ((all_adds (items_of (ds ++ es)) versions e).1 tt) in
    ap (λ vs. chosen_version vs value) these ∙ swapped first second apart value ∙ ap (λ vs. chosen_version vs value) (sym those)
