-- Keys that are all distinct are those of which none is repeated.
use Rattle.json.specs.Json as json
use Rattle.json.specs.Json.{document}
use Rattle.json.specs.Strict.{HasUniqueKeys, ItemsHaveUniqueKeys, MembersHaveUniqueKeys, keys}
use Rattle.kubecel_io.specs.Repeats.{has_key, has_unique_keys, is_unique, repeats_key, repeats_key_in_items, repeats_key_in_object}
use Rattle.std.proofs.Common.{◌≡◌, ℕ, List, Bool, true, false, ◌||◌, not, Option, Some, None, bytes_eq, refl, sym, ap}
use Rattle.std.proofs.lemmas.Map.Made.{AllPairs-from_IsDistinct, IsDistinct-from_AllPairs}
use Rattle.std.proofs.lemmas.Slice.Eq.{bytes_eq-Decides}
use Rattle.std.specs.List.{AllByRecursion, IsDistinct}
use Rattle.std.specs.Prelude.{IsSomeAnd}

neither : (a b : Bool) → (a || b) ≡ false → (a ≡ false) × (b ≡ false)
neither true b e = absurd cc
neither false b e = (refl, e)

both_false : (a b : Bool) → a ≡ false → b ≡ false → (a || b) ≡ false
both_false a b e f = rw (e, f) refl

-- ---- the keys of one object

others : (k : List ℕ) (ms : json.Members) → has_key k ms ≡ false → AllByRecursion (λ y. bytes_eq k y ≡ false) (keys ms)
others k json.no_members e = tt
others k (json.member l j ms) e = let h = neither (bytes_eq k l) (has_key k ms) e in (h.0, others k ms h.1)

not_among : (k : List ℕ) (ms : json.Members) → AllByRecursion (λ y. bytes_eq k y ≡ false) (keys ms) → has_key k ms ≡ false
not_among k json.no_members h = refl
not_among k (json.member l j ms) h = both_false (bytes_eq k l) (has_key k ms) h.0 (not_among k ms h.1)

-- ---- the keys at all levels

mutual
  unfolding IsDistinct

  unique : (j : json.Json) → repeats_key j ≡ false → HasUniqueKeys j
  unique json.null e = tt
  unique (json.boolean b) e = tt
  unique (json.number s) e = tt
  unique (json.string s) e = tt
  unique (json.array js) e = unique_in_items js e
  unique (json.object ms) e = let h = unique_in_object ms e in (AllPairs-from_IsDistinct bytes_eq-Decides (keys ms) h.0, h.1)

  unique_in_items : (js : json.Items) → repeats_key_in_items js ≡ false → ItemsHaveUniqueKeys js
  unique_in_items json.no_items e = tt
  unique_in_items (json.item j js) e = let h = neither (repeats_key j) (repeats_key_in_items js) e in (unique j h.0, unique_in_items js h.1)

  unique_in_object : (ms : json.Members) → repeats_key_in_object ms ≡ false → IsDistinct bytes_eq (keys ms) × MembersHaveUniqueKeys ms
  unique_in_object json.no_members e = (tt, tt)
  unique_in_object (json.member k j ms) e =
      let h = neither (has_key k ms) (repeats_key j || repeats_key_in_object ms) e in
      let i = neither (repeats_key j) (repeats_key_in_object ms) h.1 in
      let rest = unique_in_object ms i.1 in
      ((others k ms h.0, rest.0), (unique j i.0, rest.1))

mutual
  unfolding IsDistinct

  repeats_none : (j : json.Json) → HasUniqueKeys j → repeats_key j ≡ false
  repeats_none json.null h = refl
  repeats_none (json.boolean b) h = refl
  repeats_none (json.number s) h = refl
  repeats_none (json.string s) h = refl
  repeats_none (json.array js) h = none_in_items js h
  repeats_none (json.object ms) h = none_in_object ms (IsDistinct-from_AllPairs bytes_eq-Decides (keys ms) h.0) h.1

  none_in_items : (js : json.Items) → ItemsHaveUniqueKeys js → repeats_key_in_items js ≡ false
  none_in_items json.no_items h = refl
  none_in_items (json.item j js) h = both_false (repeats_key j) (repeats_key_in_items js) (repeats_none j h.0) (none_in_items js h.1)

  none_in_object : (ms : json.Members) → IsDistinct bytes_eq (keys ms) → MembersHaveUniqueKeys ms → repeats_key_in_object ms ≡ false
  none_in_object json.no_members d h = refl
  none_in_object (json.member k j ms) d h =
      both_false (has_key k ms) (repeats_key j || repeats_key_in_object ms) (not_among k ms d.0)
      (both_false (repeats_key j) (repeats_key_in_object ms) (repeats_none j h.0) (none_in_object ms d.1 h.1))

-- ---- a text

if_unique : (o : Option json.Json) → IsSomeAnd o HasUniqueKeys → true ≡ is_unique o
if_unique None h = absurd h
if_unique (Some j) h = sym (ap not (repeats_none j h))

by_repeats : (j : json.Json) (b : Bool) → repeats_key j ≡ b → ¬ HasUniqueKeys j → false ≡ not b
by_repeats j true e h = refl
by_repeats j false e h = absurd (h (unique j e))

if_repeated : (o : Option json.Json) → IsSomeAnd o (λ j. ¬ HasUniqueKeys j) → false ≡ is_unique o
if_repeated None h = absurd h
if_repeated (Some j) h = by_repeats j (repeats_key j) refl h

pub text_unique : (text : List ℕ) → IsSomeAnd (document text) HasUniqueKeys → true ≡ has_unique_keys text
unfolding has_unique_keys
text_unique text h = if_unique (document text) h

pub text_repeats : (text : List ℕ) → IsSomeAnd (document text) (λ j. ¬ HasUniqueKeys j) → false ≡ has_unique_keys text
unfolding has_unique_keys
text_repeats text h = if_repeated (document text) h

pub text_invalid : (text : List ℕ) → document text ≡ None → false ≡ has_unique_keys text
unfolding has_unique_keys
text_invalid text e = rw e refl
