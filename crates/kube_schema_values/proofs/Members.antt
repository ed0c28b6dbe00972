-- A filled object, key by key.
use Rattle.std.proofs.Common.{◌≡◌, ℕ, suc, List, [], ◌∷◌, is_some, nat_cmp, Bool, true, false, ◌||◌, if◌then◌else◌, Option, Some, None, option_map, option_and_then, unwrap_or, refl, sym, ap, ◌∙◌, Ordering, Less, Equal, Greater, is_eq}
use Rattle.std.specs.Option.{option_or}
use Rattle.std.specs.List.{list_any}
use Rattle.std.specs.Str.{bytes_eq}
use Rattle.std.specs.Cmp.Lexicographic.{slice_cmp}
use Rattle.std.specs.Ordering.{match_ordering}
use Rattle.std.proofs.lemmas.Map.Text.{is_eq-slice_cmp}
use Rattle.std.proofs.lemmas.Slice.Eq.{bytes_eq-Decides}
use Rattle.serde_json.proofs.Views.{get_member-put, get_member-put_other}
use Rattle.serde_json.specs.Data.{Data, Members, no_members, member, put}
use Rattle.serde_json.specs.Find.{get, get_member}
use Rattle.kube_schema_values.specs.DefaultsAccessors.{DefaultsAccessors, raw, declared_properties, members_or_none, keys_in}
use Rattle.kube_schema_values.specs.Defaults.{put_new, map_members, with_defaults, default_by, member_by, object_by, defaulted_value, FillsMembers}
use Rattle.kube_schema_values.proofs.Fills.{filled_object, property_is}

-- q is one of the keys
abbrev pub is_key : List ℕ → List (List ℕ) → Bool
is_key q ks = list_any (bytes_eq q) ks

same_key : (k l : List ℕ) → bytes_eq k l ≡ true → k ≡ l
same_key k l e = (bytes_eq-Decides k l).0 e

other_key : (k l : List ℕ) → bytes_eq k l ≡ false → k ≡ l → ⊥
other_key k l e h = let yes = (bytes_eq-Decides k l).1 h in cc

pub get_member-map_members : (f : List ℕ → Data → Data) (q : List ℕ) (ms : Members) → get_member q (map_members f ms) ≡ option_map (f q) (get_member q ms)
get_member-map_members f q no_members = refl
get_member-map_members f q (member l d ms) = by (slice_cmp nat_cmp q l) refl (get_member-map_members f q ms)
  where
    by : (o : Ordering) → slice_cmp nat_cmp q l ≡ o → get_member q (map_members f ms) ≡ option_map (f q) (get_member q ms)
        → match_ordering o (get_member q (map_members f ms)) (Some (f l d)) (get_member q (map_members f ms)) ≡ option_map (f q) (match_ordering o (get_member q ms) (Some d) (get_member q ms))
    by Less e r = r
    by Equal e r = ap (λ k. Some (f k d)) (sym (same_key q l (sym (is_eq-slice_cmp q l) ∙ ap is_eq e)))
    by Greater e r = r

get_member-put_new_here : (k : List ℕ) (d : Option Data) (ms : Members) → get_member k (put_new k d ms) ≡ option_or (get_member k ms) d
get_member-put_new_here k None ms = by (get_member k ms)
  where
    by : (o : Option Data) → o ≡ option_or o None
    by None = refl
    by (Some y) = refl
get_member-put_new_here k (Some x) ms = by (get_member k ms) refl
  where
    by : (o : Option Data) → get_member k ms ≡ o → get_member k (unwrap_or (option_map (λ _. ms) o) (put k x ms)) ≡ option_or o (Some x)
    by None e = get_member-put k x ms
    by (Some y) e = e

get_member-put_new_other : (q k : List ℕ) (d : Option Data) (ms : Members) → (q ≡ k → ⊥) → get_member q (put_new k d ms) ≡ get_member q ms
get_member-put_new_other q k None ms other = refl
get_member-put_new_other q k (Some x) ms other = by (get_member k ms)
  where
    by : (o : Option Data) → get_member q (unwrap_or (option_map (λ _. ms) o) (put k x ms)) ≡ get_member q ms
    by None = get_member-put_other q k x ms other
    by (Some y) = refl

-- the value of a key, if it is looked up
abbrev pub if_key : Bool → Option Data → Option Data
if_key b d = if b then d else None

joins : (g d : Option Data) (b : Bool) → option_or (option_or g d) (if_key b d) ≡ option_or g d
joins (Some y) d b = refl
joins None None true = refl
joins None None false = refl
joins None (Some x) b = refl

pub get_member-with_defaults : (f : List ℕ → Option Data) (q : List ℕ) (ks : List (List ℕ)) (ms : Members) → get_member q (with_defaults f ks ms) ≡ option_or (get_member q ms) (if_key (is_key q ks) (f q))
unfolding with_defaults
get_member-with_defaults f q [] ms = by (get_member q ms)
  where
    by : (o : Option Data) → o ≡ option_or o None
    by None = refl
    by (Some y) = refl
get_member-with_defaults f q (k ∷ ks) ms = get_member-with_defaults f q ks (put_new k (f k) ms) ∙ by (bytes_eq q k) refl
  where
    by : (b : Bool) → bytes_eq q k ≡ b → option_or (get_member q (put_new k (f k) ms)) (if_key (is_key q ks) (f q)) ≡ option_or (get_member q ms) (if_key (b || is_key q ks) (f q))
    by true e =
        ap (λ k. option_or (get_member q (put_new k (f k) ms)) (if_key (is_key q ks) (f q))) (sym (same_key q k e))
        ∙ ap (λ g. option_or g (if_key (is_key q ks) (f q))) (get_member-put_new_here q (f q) ms) ∙ joins (get_member q ms) (f q) (is_key q ks)
    by false e = ap (λ g. option_or g (if_key (is_key q ks) (f q))) (get_member-put_new_other q k (f k) ms (other_key q k e))

-- ---- a schema that lists each key that it declares

pub record NamesKeys {S : Type 0} (accessors : DefaultsAccessors S) : Type 0 where
  pub named : (k : List ℕ) (s : S) → is_key k (accessors.keys s) ≡ is_some (accessors.property k s)

keys_named : (q : List ℕ) (ms : Members) → is_key q (keys_in ms) ≡ is_some (get_member q ms)
keys_named q no_members = refl
keys_named q (member k d ms) = ap (λ b. b || is_key q (keys_in ms)) (sym (is_eq-slice_cmp q k)) ∙ by (slice_cmp nat_cmp q k) (keys_named q ms)
  where
    by : (o : Ordering) → is_key q (keys_in ms) ≡ is_some (get_member q ms) → (is_eq o || is_key q (keys_in ms)) ≡ is_some (match_ordering o (get_member q ms) (Some d) (get_member q ms))
    by Less e = e
    by Equal e = refl
    by Greater e = e

pub raw_names_keys : NamesKeys raw
unfolding raw
raw_names_keys = record { named = λ k s. keys_named k (members_or_none (declared_properties s)) ∙ ap is_some (sym (property_is k s)) }

module _ {S : Type 0} (accessors : DefaultsAccessors S) (h : NamesKeys accessors) where
  default_named : (f : S → Data → Data) (s : S) (q : List ℕ) → if_key (is_key q (accessors.keys s)) (default_by accessors f s q) ≡ default_by accessors f s q
  unfolding default_by
  default_named f s q = ap (λ b. if_key b (option_and_then (λ p. option_map (f p) (accessors.default p)) (accessors.property q s))) (h.named q s) ∙ by (accessors.property q s)
    where
      by : (o : Option S) → if_key (is_some o) (option_and_then (λ p. option_map (f p) (accessors.default p)) o) ≡ option_and_then (λ p. option_map (f p) (accessors.default p)) o
      by None = refl
      by (Some p) = refl

  pub get_member-object_by : (f : S → Data → Data) (s : S) (ms : Members) (q : List ℕ) → get_member q (object_by accessors f s ms) ≡ option_or (option_map (member_by accessors f s q) (get_member q ms)) (default_by accessors f s q)
  unfolding object_by
  get_member-object_by f s ms q =
      get_member-with_defaults (default_by accessors f s) q (accessors.keys s) (map_members (member_by accessors f s) ms)
      ∙ ap (option_or (get_member q (map_members (member_by accessors f s) ms))) (default_named f s q)
      ∙ ap (λ g. option_or g (default_by accessors f s q)) (get_member-map_members (member_by accessors f s) q ms)

  pub fills_members : (n : ℕ) (s : S) (d : Data) → FillsMembers accessors n s d (defaulted_value accessors (suc n) s d)
  fills_members n s d = record { members = λ ms q e. ap (get q) (filled_object accessors (suc n) n s d ms refl e) ∙ get_member-object_by (defaulted_value accessors n) s ms q }
