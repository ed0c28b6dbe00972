-- A filled value has all its defaults.
use Rattle.std.proofs.Common.{◌≡◌, ℕ, zero, suc, List, [], ◌∷◌, nat_cmp, Bool, true, false, ◌||◌, Option, Some, None, option_map, option_and_then, unwrap_or, refl, sym, ap, ◌∙◌, Ordering, Less, Equal, Greater, is_eq}
use Rattle.std.specs.Prelude.{⊤}
use Rattle.std.specs.Option.{option_or}
use Rattle.std.specs.Str.{bytes_eq}
use Rattle.std.specs.Cmp.Lexicographic.{slice_cmp}
use Rattle.std.specs.Ordering.{match_ordering}
use Rattle.std.proofs.lemmas.Map.Text.{is_eq-slice_cmp}
use Rattle.std.proofs.lemmas.Slice.Eq.{bytes_eq-Decides}
use Rattle.serde_json.specs.Data.{Data, null, boolean, number, string, array, object, Items, no_items, item, Members, no_members, member, put}
use Rattle.serde_json.specs.Find.{get_member}
use Rattle.kube_schema_values.specs.DefaultsAccessors.{DefaultsAccessors}
use Rattle.kube_schema_values.specs.Defaults.{put_new, map_items, map_members, with_defaults, member_schema, default_by, member_by, object_by, defaulted_by, defaulted_value}
use Rattle.kube_schema_values.proofs.Members.{is_key, if_key, get_member-with_defaults}

-- ---- members that stay as they are

abbrev Fixed : (List ℕ → Data → Data) → Members → Type 0
Fixed f no_members = ⊤
Fixed f (member k d ms) = (f k d ≡ d) × Fixed f ms

module _ (f : List ℕ → Data → Data) where
  fixed_same : (ms : Members) → Fixed f ms → map_members f ms ≡ ms
  fixed_same no_members h = refl
  fixed_same (member k d ms) h = ap (λ x. member k x (map_members f ms)) h.0 ∙ ap (member k d) (fixed_same ms h.1)

  fixed_map : ((k : List ℕ) (d : Data) → f k (f k d) ≡ f k d) → (ms : Members) → Fixed f (map_members f ms)
  fixed_map twice no_members = tt
  fixed_map twice (member k d ms) = (twice k d, fixed_map twice ms)

  fixed_put : (k : List ℕ) (d : Data) (ms : Members) → f k d ≡ d → Fixed f ms → Fixed f (put k d ms)
  fixed_put k d no_members e h = (e, tt)
  fixed_put k d (member l x ms) e h = by (slice_cmp nat_cmp k l) refl (fixed_put k d ms e h.1)
    where
      by : (o : Ordering) → slice_cmp nat_cmp k l ≡ o → Fixed f (put k d ms) → Fixed f (match_ordering o (member k d (member l x ms)) (member l d ms) (member l x (put k d ms)))
      by Less c r = (e, h)
      by Equal c r = (ap (λ l. f l d) (sym ((bytes_eq-Decides k l).0 (sym (is_eq-slice_cmp k l) ∙ ap is_eq c))) ∙ e, h.1)
      by Greater c r = (h.0, r)

  fixed_put_new : (k : List ℕ) (o : Option Data) (ms : Members) → ((d : Data) → o ≡ Some d → f k d ≡ d) → Fixed f ms → Fixed f (put_new k o ms)
  fixed_put_new k None ms e h = h
  fixed_put_new k (Some d) ms e h = by (get_member k ms)
    where
      by : (o : Option Data) → Fixed f (unwrap_or (option_map (λ _. ms) o) (put k d ms))
      by None = fixed_put k d ms (e d refl) h
      by (Some x) = h

  fixed_defaults : (default : List ℕ → Option Data) → ((k : List ℕ) (d : Data) → default k ≡ Some d → f k d ≡ d) → (ks : List (List ℕ)) (ms : Members) → Fixed f ms → Fixed f (with_defaults default ks ms)
  unfolding with_defaults
  fixed_defaults default e [] ms h = h
  fixed_defaults default e (k ∷ ks) ms h = fixed_defaults default e ks (put_new k (default k) ms) (fixed_put_new k (default k) ms (e k) h)

-- ---- members that lack no default

module _ (default : List ℕ → Option Data) where
  abbrev Stable : List (List ℕ) → Members → Type 0
  Stable [] ms = ⊤
  Stable (k ∷ ks) ms = (put_new k (default k) ms ≡ ms) × Stable ks ms

  stable_same : (ks : List (List ℕ)) (ms : Members) → Stable ks ms → with_defaults default ks ms ≡ ms
  unfolding with_defaults
  stable_same [] ms h = refl
  stable_same (k ∷ ks) ms h = ap (with_defaults default ks) h.0 ∙ stable_same ks ms h.1

  put_stable : (k : List ℕ) (g d : Option Data) (ms : Members) → get_member k ms ≡ option_or g d → put_new k d ms ≡ ms
  put_stable k g None ms e = refl
  put_stable k None (Some d) ms e = ap (λ o. unwrap_or (option_map (λ _. ms) o) (put k d ms)) e
  put_stable k (Some x) (Some d) ms e = ap (λ o. unwrap_or (option_map (λ _. ms) o) (put k d ms)) e

  stable : (ks all : List (List ℕ)) (ms : Members) → ((k : List ℕ) → is_key k ks ≡ true → is_key k all ≡ true) → Stable ks (with_defaults default all ms)
  stable [] all ms h = tt
  stable (k ∷ ks) all ms h =
      let here : is_key k all ≡ true = h k (ap (λ b. b || is_key k ks) ((bytes_eq-Decides k k).1 refl)) in (
        put_stable k (get_member k ms) (default k) (with_defaults default all ms) (get_member-with_defaults default k all ms ∙ ap (λ b. option_or (get_member k ms) (if_key b (default k))) here),
        stable ks all ms (λ q e. h q (later (bytes_eq q k) (is_key q ks) e)),
      )
    where
      later : (a b : Bool) → b ≡ true → (a || b) ≡ true
      later true b e = refl
      later false b e = e

-- ---- one level

map_items_twice : (f : Data → Data) → ((d : Data) → f (f d) ≡ f d) → (ds : Items) → map_items f (map_items f ds) ≡ map_items f ds
map_items_twice f h no_items = refl
map_items_twice f h (item d ds) = ap (λ x. item x (map_items f (map_items f ds))) (h d) ∙ ap (item (f d)) (map_items_twice f h ds)

module _ {S : Type 0} (accessors : DefaultsAccessors S) (f : S → Data → Data) (twice : (p : S) (d : Data) → f p (f p d) ≡ f p d) (s : S) where
  member_twice : (k : List ℕ) (d : Data) → member_by accessors f s k (member_by accessors f s k d) ≡ member_by accessors f s k d
  unfolding member_by
  member_twice k d = by (member_schema accessors s k)
    where
      by : (o : Option S) → unwrap_or (option_map (λ p. f p (unwrap_or (option_map (λ p. f p d) o) d)) o) (unwrap_or (option_map (λ p. f p d) o) d) ≡ unwrap_or (option_map (λ p. f p d) o) d
      by None = refl
      by (Some p) = twice p d

  default_fixed : (k : List ℕ) (d : Data) → default_by accessors f s k ≡ Some d → member_by accessors f s k d ≡ d
  unfolding default_by member_by member_schema
  default_fixed k d e = by (accessors.property k s) e
    where
      filled_one : (p : S) (o : Option Data) → option_map (f p) o ≡ Some d → f p d ≡ d
      filled_one p None e = cc
      filled_one p (Some x) e = let same : f p x ≡ d = cc in ap (f p) (sym same) ∙ twice p x ∙ same

      by : (o : Option S) → option_and_then (λ p. option_map (f p) (accessors.default p)) o ≡ Some d → unwrap_or (option_map (λ p. f p d) (option_or o (accessors.additional s))) d ≡ d
      by None e = cc
      by (Some p) e = filled_one p (accessors.default p) e

  object_twice : (ms : Members) → object_by accessors f s (object_by accessors f s ms) ≡ object_by accessors f s ms
  unfolding object_by
  object_twice ms =
      let g = member_by accessors f s in
      let default = default_by accessors f s in
      let once = with_defaults default (accessors.keys s) (map_members g ms) in
      let stays : map_members g once ≡ once = fixed_same g once (fixed_defaults g default default_fixed (accessors.keys s) (map_members g ms) (fixed_map g member_twice ms)) in
      ap (with_defaults default (accessors.keys s)) stays ∙ stable_same default (accessors.keys s) once (stable default (accessors.keys s) (accessors.keys s) (map_members g ms) (λ k e. e))

  filled_by_twice : (d : Data) → defaulted_by accessors f s (defaulted_by accessors f s d) ≡ defaulted_by accessors f s d
  unfolding defaulted_by
  filled_by_twice null = refl
  filled_by_twice (boolean b) = refl
  filled_by_twice (number n) = refl
  filled_by_twice (string t) = refl
  filled_by_twice (object ms) = ap object (object_twice ms)
  filled_by_twice (array ds) = by (accessors.items s) refl
    where
      by : (o : Option S) → accessors.items s ≡ o → defaulted_by accessors f s (unwrap_or (option_map (λ p. array (map_items (f p) ds)) o) (array ds)) ≡ unwrap_or (option_map (λ p. array (map_items (f p) ds)) o) (array ds)
      by None e = ap (λ o. unwrap_or (option_map (λ p. array (map_items (f p) ds)) o) (array ds)) e
      by (Some p) e =
          let once = map_items (f p) ds in
          ap (λ o. unwrap_or (option_map (λ p. array (map_items (f p) once)) o) (array once)) e ∙ ap array (map_items_twice (f p) (twice p) ds)

pub filled_twice : {S : Type 0} (accessors : DefaultsAccessors S) (n : ℕ) (s : S) (d : Data) → defaulted_value accessors n s (defaulted_value accessors n s d) ≡ defaulted_value accessors n s d
unfolding defaulted_value
filled_twice accessors zero s d = refl
filled_twice accessors (suc n) s d = filled_by_twice accessors (defaulted_value accessors n) (filled_twice accessors n) s d
