-- The parts of members in place of the values of a map's entries.
use Rattle.std.proofs.Common.{◌≡◌, ℕ, zero, suc, ◌+◌, ◌<◌, List, [], ◌∷◌, ◌++◌, map, take, length, get_or, Option, Some, Result, Ok, Err, Bool, true, false, Less, refl, sym, ap, ◌∙◌, subst, arith}
use Rattle.std.proofs.lemmas.List.{map-append, take_more}
use Rattle.std.proofs.lemmas.Map.Keys.{sorted_head, sorted_tail}
use Rattle.std.specs.Prelude.{IfOk, slice_get}
use Rattle.std.specs.List.{AllByRecursion}
use Rattle.std.specs.List.Sorted.{IsStrictlySortedBy}
use Rattle.std.specs.Ordering.{eq_by_cmp, is_eq}
use Rattle.cel_demand.specs.Alike.{Alike, OptionsAlike, MembersAlike}
use Rattle.cel_demand.specs.Demand.{part_of, members_view}
use Rattle.cel_demand.specs.Places.{Entry, name_of}
use Rattle.cel_value.proofs.Indexed.{all_at}
use Rattle.cel_value.specs.Data.{Data, Entries, KeyData, text_key}
use Rattle.cel_value.specs.Find.{find}
use Rattle.cel_value.specs.Keys.{key_order, put}
use Rattle.cel_value.specs.Replaced.{IsReplacedAt, entry_keys}
use Rattle.kube_schema_values.proofs.Found.{find-put, find-put_other}
use Rattle.kube_schema_parts.proofs.Bound.{members_last}
use Rattle.kube_schema_parts.specs.Replaced.{IsPutAt}

abbrev text_keys : List Entry → List KeyData
text_keys es = map (λ e. text_key (name_of e)) es

-- the name of none of these members is that name
abbrev AreOthers : List ℕ → List Entry → Type 0
AreOthers n es = AllByRecursion (λ e. eq_by_cmp key_order (text_key (name_of e)) (text_key n) ≡ false) es

take_next : (ks : List KeyData) (i : ℕ) (k : KeyData) → slice_get ks i ≡ Some k → take (suc i) ks ≡ take i ks ++ k ∷ []
take_next [] i k h = absurd cc
take_next (l ∷ ks) zero k h = let p : l ≡ k = cc in ap (λ x. x ∷ []) p
take_next (l ∷ ks) (suc i) k h = ap (λ t. l ∷ t) (take_next ks i k h)

-- of sorted keys one is none of those before it
others_before : (es : List Entry) (ks : List KeyData) (i : ℕ) (n : List ℕ) → IsStrictlySortedBy key_order ks → text_keys es ≡ take i ks → slice_get ks i ≡ Some (text_key n) → AreOthers n es
others_before [] ks i n s h there = tt
others_before (e ∷ es) [] i n s h there = absurd cc
others_before (e ∷ es) (k ∷ ks) zero n s h there = absurd cc
others_before (e ∷ es) (k ∷ ks) (suc i) n s h there =
    let here : text_key (name_of e) ≡ k = cc in
    let rest : text_keys es ≡ take i ks = cc in
    let below : key_order k (text_key n) ≡ Less = all_at (λ y. key_order k y ≡ Less) ks i (text_key n) (sorted_head key_order k ks s) there in (
      ap is_eq (ap (λ l. key_order l (text_key n)) here ∙ below),
      others_before es ks i n (sorted_tail key_order k ks s) rest there,
    )

-- a value at another name
still_alike : (n : List ℕ) (v : Data) (es : Entries) (h : List ℕ → Option Data) (ms : List Entry) → AreOthers n ms → MembersAlike (members_view ms) (λ x. find (text_key x) es) h
    → MembersAlike (members_view ms) (λ x. find (text_key x) (put (text_key n) v es)) h
still_alike n v es h [] a k = tt
still_alike n v es h (m ∷ ms) a k = (
  subst (λ o. OptionsAlike (Alike (part_of m.1)) o (h (name_of m))) (sym (find-put_other (text_key (name_of m)) (text_key n) v es a.0)) k.0,
  still_alike n v es h ms a.1 k.1,
)

-- the first members are put in place of the first entries
abbrev pub ArePutTo : ℕ → List Entry → Entries → Entries → Type 0
ArePutTo i ms bound es = (text_keys (take i ms) ≡ take i (entry_keys es))
    × MembersAlike (members_view (take i ms)) (λ x. find (text_key x) es) (λ x. find (text_key x) bound)

pub put_none : (ms : List Entry) (bound es : Entries) → ArePutTo 0 ms bound es
put_none [] bound es = (refl, tt)
put_none (m ∷ ms) bound es = (refl, tt)

pub put_more : (ms : List Entry) (i : ℕ) (m : Entry) (bound es fs : Entries) → i < length ms → m ≡ get_or ms i m → IsPutAt i m bound es fs → ArePutTo i ms bound es → ArePutTo (i + 1) ms bound fs
put_more ms i m bound es fs lt is p k =
    let n = name_of m in
    let ks = entry_keys es in
    let v = p.1 in
    let replaced = p.5 in
    let g = λ (x : List ℕ). find (text_key x) (put (text_key n) v es) in
    let h = λ (x : List ℕ). find (text_key x) bound in
    let next : take (i + 1) ms ≡ take i ms ++ m ∷ [] = take_more ms i m lt ∙ ap (λ y. take i ms ++ y ∷ []) (sym is) in
    let one_more : suc i ≡ i + 1 = omega arith in
    let names : text_keys (take (i + 1) ms) ≡ take (i + 1) (entry_keys fs) =
    ap text_keys next ∙ map-append (λ e. text_key (name_of e)) (take i ms) (m ∷ []) ∙ ap (λ l. l ++ text_key n ∷ []) k.0
    ∙ sym (take_next ks i (text_key n) p.0) ∙ ap (λ n. take n ks) one_more ∙ ap (take (i + 1)) (sym replaced.1) in
    let before = still_alike n v es h (take i ms) (others_before (take i ms) ks i n replaced.0 k.0 p.0) k.1 in
    let last : OptionsAlike (Alike (part_of m.1)) (g n) (h n) =
    subst (λ o. OptionsAlike (Alike (part_of m.1)) (g n) o) (sym p.3)
    (subst (λ o. OptionsAlike (Alike (part_of m.1)) o (Some p.2)) (sym (find-put (text_key n) v es)) p.4) in
    let all : MembersAlike (members_view (take i ms ++ m ∷ [])) g h = members_last (take i ms) m g h before last in (
      names,
      subst (λ l. MembersAlike (members_view l) (λ x. find (text_key x) fs) h) (sym next)
          (subst (λ z. MembersAlike (members_view (take i ms ++ m ∷ [])) (λ x. find (text_key x) z) h) (sym (replaced.2 (text_key n) p.0)) all),
    )

-- the part of a member is put where its key is
pub put_at : {E : Type 0} (r : Result Bool E) (i : ℕ) (m : Entry) (bound es fs : Entries) (v : Data) → slice_get (entry_keys es) i ≡ Some (text_key (name_of m))
    → (w : Data) × (find (text_key (name_of m)) bound ≡ Some w) × Alike (part_of m.1) v w → IfOk r (λ done. done ≡ true → IsReplacedAt i v es fs) → IfOk r (λ done. done ≡ true → IsPutAt i m bound es fs)
put_at (Ok done) i m bound es fs v key found h = λ t. (key, v, found.0, found.1, found.2, h t)
put_at (Err e) i m bound es fs v key found h = tt
