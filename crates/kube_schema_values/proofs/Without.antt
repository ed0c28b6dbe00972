-- If no default lies within a schema, filling changes nothing.
use Rattle.std.proofs.Common.{◌≡◌, ℕ, zero, suc, List, [], ◌∷◌, Option, Some, None, option_map, option_and_then, unwrap_or, refl, ap, ◌∙◌}
use Rattle.serde_json.specs.Data.{Data, null, boolean, number, string, array, object, Items, no_items, item, Members, no_members, member}
use Rattle.kube_schema_values.specs.DefaultsAccessors.{DefaultsAccessors}
use Rattle.kube_schema_values.specs.Defaults.{put_new, map_items, map_members, with_defaults, member_schema, member_by, default_by, object_by, defaulted_by, defaulted_value}
use Rattle.kube_schema_values.specs.Without.{HasNoDefaults}

items_stay : (f : Data → Data) → ((d : Data) → f d ≡ d) → (ds : Items) → map_items f ds ≡ ds
items_stay f h no_items = refl
items_stay f h (item d ds) = ap (λ x. item x (map_items f ds)) (h d) ∙ ap (item d) (items_stay f h ds)

members_stay : (f : List ℕ → Data → Data) → ((k : List ℕ) (d : Data) → f k d ≡ d) → (ms : Members) → map_members f ms ≡ ms
members_stay f h no_members = refl
members_stay f h (member k d ms) = ap (λ x. member k x (map_members f ms)) (h k d) ∙ ap (member k d) (members_stay f h ms)

nothing_new : (default : List ℕ → Option Data) → ((k : List ℕ) → default k ≡ None) → (ks : List (List ℕ)) (ms : Members) → with_defaults default ks ms ≡ ms
unfolding with_defaults
nothing_new default h [] ms = refl
nothing_new default h (k ∷ ks) ms = ap (λ o. with_defaults default ks (put_new k o ms)) (h k) ∙ nothing_new default h ks ms

module _ {S : Type 0} (accessors : DefaultsAccessors S) where
  member_stays : (f : S → Data → Data) (s : S) (k : List ℕ) (d : Data) → ((p : S) → member_schema accessors s k ≡ Some p → f p d ≡ d) → member_by accessors f s k d ≡ d
  unfolding member_by
  member_stays f s k d h = by (member_schema accessors s k) h
    where
      by : (o : Option S) → ((p : S) → o ≡ Some p → f p d ≡ d) → unwrap_or (option_map (λ p. f p d) o) d ≡ d
      by None h = refl
      by (Some p) h = h p refl

  no_default : (f : S → Data → Data) (s : S) (k : List ℕ) → ((p : S) → accessors.property k s ≡ Some p → accessors.default p ≡ None) → default_by accessors f s k ≡ None
  unfolding default_by
  no_default f s k h = by (accessors.property k s) h
    where
      by : (o : Option S) → ((p : S) → o ≡ Some p → accessors.default p ≡ None) → option_and_then (λ p. option_map (f p) (accessors.default p)) o ≡ None
      by None h = refl
      by (Some p) h = ap (option_map (f p)) (h p refl)

  list_stays : (f : S → Data → Data) (s : S) (ds : Items) → ((p : S) (d : Data) → accessors.items s ≡ Some p → f p d ≡ d) → unwrap_or (option_map (λ p. array (map_items (f p) ds)) (accessors.items s)) (array ds) ≡ array ds
  list_stays f s ds h = by (accessors.items s) h
    where
      by : (o : Option S) → ((p : S) (d : Data) → o ≡ Some p → f p d ≡ d) → unwrap_or (option_map (λ p. array (map_items (f p) ds)) o) (array ds) ≡ array ds
      by None h = refl
      by (Some p) h = ap array (items_stay (f p) (λ d. h p d refl) ds)

  pub all_stays : (n : ℕ) (s : S) (d : Data) → HasNoDefaults accessors n s → defaulted_value accessors n s d ≡ d
  unfolding defaulted_value defaulted_by object_by HasNoDefaults
  all_stays zero s d h = refl
  all_stays (suc n) s null h = refl
  all_stays (suc n) s (boolean b) h = refl
  all_stays (suc n) s (number x) h = refl
  all_stays (suc n) s (string t) h = refl
  all_stays (suc n) s (array ds) h = list_stays (defaulted_value accessors n) s ds (λ p d e. all_stays n p d (h.2 p e))
  all_stays (suc n) s (object ms) h =
      let default = default_by accessors (defaulted_value accessors n) s in
      let same = members_stay (member_by accessors (defaulted_value accessors n) s) (λ k d. member_stays (defaulted_value accessors n) s k d (λ p e. all_stays n p d (h.1 k p e))) ms in
      ap object (ap (with_defaults default (accessors.keys s)) same ∙ nothing_new default (λ k. no_default (defaulted_value accessors n) s k (h.0 k)) (accessors.keys s) ms)
