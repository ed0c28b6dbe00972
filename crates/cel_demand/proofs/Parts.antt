-- Values that are alike in the union of two parts are alike in each.
use Rattle.std.proofs.Common.{◌≡◌, ℕ, List, [], ◌∷◌, Bool, true, false, Option, Some, None, if◌then◌else◌, Ordering, Less, Equal, Greater, refl, sym, subst, inl, inr}
use Rattle.std.proofs.lemmas.Map.Lookups.{exact_bytes}
use Rattle.std.specs.Cmp.Lexicographic.{slice_cmp}
use Rattle.std.specs.Ordering.{nat_cmp, match_ordering}
use Rattle.std.specs.Str.{bytes_eq}
use Rattle.cel_semantics.specs.Bindings.{Bindings, binding}
use Rattle.cel_value.specs.Data.{Data, list, map_of, text_key, Items, Entries}
use Rattle.cel_value.specs.Find.{find}
use Rattle.cel_semantics.specs.Ranges.{items_list}
use Rattle.cel_demand.specs.Alike.{OptionsAlike, ListsAlike, AreLists, AreMaps, Alike, MembersAlike, BoundAlike}
use Rattle.cel_demand.specs.Part.{Part, nothing, whole, each_item, some_members, Members, no_members, member, with_member, both, all_members, part_at, without}

pub alike-refl : (p : Part) (v : Data) → Alike p v v
alike-refl nothing v = tt
alike-refl whole v = refl
alike-refl (each_item p) v = inl refl
alike-refl (some_members ms) v = inl refl

pub alike_equal : (p : Part) (v w : Data) → v ≡ w → Alike p v w
alike_equal p v w e = subst (λ z. Alike p v z) e (alike-refl p v)

pub lists-refl : {A : Type 0} (R : A → A → Type 0) → ((v : A) → R v v) → (vs : List A) → ListsAlike R vs vs
lists-refl R same [] = tt
lists-refl R same (v ∷ vs) = (same v, lists-refl R same vs)

pub lists_case : (R : Items → Items → Type 0) (P : Data → Data → Type 0) → ((ds es : Items) → R ds es → P (list ds) (list es)) → (v w : Data) → AreLists R v w → P v w
lists_case R P f (list ds) (list es) h = f ds es h
lists_case R P f _ _ h = absurd h

pub maps_case : (R : Entries → Entries → Type 0) (P : Data → Data → Type 0) → ((es fs : Entries) → R es fs → P (map_of es) (map_of fs)) → (v w : Data) → AreMaps R v w → P v w
maps_case R P f (map_of es) (map_of fs) h = f es fs h
maps_case R P f _ _ h = absurd h

abbrev pub Names : Type 0
Names = List ℕ → Option Data

-- what is related by T is related by R and by S
abbrev pub Splits : {A : Type 0} → (A → A → Type 0) → (A → A → Type 0) → (A → A → Type 0) → Type 0
Splits {A = A} R S T = (v w : A) → T v w → R v w × S v w

pub options_split : {A : Type 0} (R S T : A → A → Type 0) → Splits R S T → (o q : Option A) → OptionsAlike T o q → OptionsAlike R o q × OptionsAlike S o q
options_split R S T f None None h = (tt, tt)
options_split R S T f None (Some w) h = absurd h
options_split R S T f (Some v) None h = absurd h
options_split R S T f (Some v) (Some w) h = f v w h

lists_split : {A : Type 0} (R S T : A → A → Type 0) → Splits R S T → (vs ws : List A) → ListsAlike T vs ws → ListsAlike R vs ws × ListsAlike S vs ws
lists_split R S T f [] [] h = (tt, tt)
lists_split R S T f [] (w ∷ ws) h = absurd h
lists_split R S T f (v ∷ vs) [] h = absurd h
lists_split R S T f (v ∷ vs) (w ∷ ws) h =
    let k = f v w h.0 in
    let ks = lists_split R S T f vs ws h.1 in
    ((k.0, ks.0), (k.1, ks.1))

-- each case: the name comes before the first, is its name, or comes after it
added : (o : Ordering) (x y : List ℕ) → (o ≡ Equal → x ≡ y) → (p q j : Part) → Splits (Alike p) (Alike q) (Alike j) → (ns rest : Members) (g h : Names) → (MembersAlike rest g h → OptionsAlike (Alike p) (g x) (h x) × MembersAlike ns g h)
    → MembersAlike (match_ordering o (member x p (member y q ns)) (member y j ns) (member y q rest)) g h → OptionsAlike (Alike p) (g x) (h x) × (OptionsAlike (Alike q) (g y) (h y) × MembersAlike ns g h)
added Less x y same p q j f ns rest g h more k = k
added Equal x y same p q j f ns rest g h more k =
    let ks = options_split (Alike p) (Alike q) (Alike j) f (g y) (h y) k.0 in
    (subst (λ z. OptionsAlike (Alike p) (g z) (h z)) (sym (same refl)) ks.0, (ks.1, k.1))
added Greater x y same p q j f ns rest g h more k =
    let ks = more k.1 in
    (ks.0, (k.0, ks.1))

pub with_member_alike : (x : List ℕ) (p : Part) (joined : Part → Part) → ((q : Part) → Splits (Alike p) (Alike q) (Alike (joined q))) → (ns : Members) (g h : Names) → MembersAlike (with_member x p joined ns) g h → OptionsAlike (Alike p) (g x) (h x) × MembersAlike ns g h
with_member_alike x p joined f no_members g h k = k
with_member_alike x p joined f (member y q ns) g h k =
    added (slice_cmp nat_cmp x y) x y (exact_bytes x y) p q (joined q) (f q) ns (with_member x p joined ns) g h (with_member_alike x p joined f ns g h) k

mutual
  pub both_alike : (p q : Part) (v w : Data) → Alike (both p q) v w → Alike p v w × Alike q v w
  both_alike nothing q v w h = (tt, h)
  both_alike whole q v w h = (h, alike_equal q v w h)
  both_alike (each_item p) nothing v w h = (h, tt)
  both_alike (each_item p) whole v w h = (inl h, h)
  both_alike (each_item p) (each_item q) v w h = elim h as (λ _. Alike (each_item p) v w × Alike (each_item q) v w) [
    | inl e ↦ (inl e, inl e)
    | inr k ↦ lists_case (λ ds es. ListsAlike (Alike (both p q)) (items_list ds) (items_list es)) (λ v w. Alike (each_item p) v w × Alike (each_item q) v w)
        (λ ds es l. let ls = lists_split (Alike p) (Alike q) (Alike (both p q)) (both_alike p q) (items_list ds) (items_list es) l in (inr ls.0, inr ls.1)) v w k
  ]
  both_alike (each_item p) (some_members ms) v w h = (inl h, inl h)
  both_alike (some_members ms) nothing v w h = (h, tt)
  both_alike (some_members ms) whole v w h = (inl h, h)
  both_alike (some_members ms) (each_item q) v w h = (inl h, inl h)
  both_alike (some_members ms) (some_members ns) v w h = elim h as (λ _. Alike (some_members ms) v w × Alike (some_members ns) v w) [
    | inl e ↦ (inl e, inl e)
    | inr k ↦ maps_case (λ es fs. MembersAlike (all_members ms ns) (λ x. find (text_key x) es) (λ x. find (text_key x) fs)) (λ v w. Alike (some_members ms) v w × Alike (some_members ns) v w)
        (λ es fs l. let ls = all_members_alike ms ns (λ x. find (text_key x) es) (λ x. find (text_key x) fs) l in (inr ls.0, inr ls.1)) v w k
  ]

  pub all_members_alike : (ms ns : Members) (g h : List ℕ → Option Data) → MembersAlike (all_members ms ns) g h → MembersAlike ms g h × MembersAlike ns g h
  all_members_alike no_members ns g h k = (tt, k)
  all_members_alike (member x p ms) ns g h k =
      let ls = all_members_alike ms (with_member x p (both p) ns) g h k in
      let rs = with_member_alike x p (both p) (both_alike p) ns g h ls.1 in
      ((rs.0, ls.0), rs.1)

-- both cases: the name is the one that is bound anew, or it isn't
bound_anew : (b : Bool) (x y : List ℕ) (p : Part) (ms : Members) (v w : Data) (e f : Bindings) → Alike (if b then both p (part_at x ms) else part_at x ms) v w → BoundAlike (if b then without x ms else member y p (without x ms)) e f → OptionsAlike (Alike p) (if b then Some v else binding y e) (if b then Some w else binding y f) × (Alike (part_at x ms) v w × BoundAlike (without x ms) e f)
bound_anew true x y p ms v w e f a k =
    let us = both_alike p (part_at x ms) v w a in
    (us.0, (us.1, k))
bound_anew false x y p ms v w e f a k = (k.0, (a, k.1))

-- with one more name bound
pub bound_inside : (x : List ℕ) (ms : Members) (v w : Data) (e f : Bindings) → Alike (part_at x ms) v w → BoundAlike (without x ms) e f → BoundAlike ms ((x, v) ∷ e) ((x, w) ∷ f)
bound_inside x no_members v w e f a k = tt
bound_inside x (member y p ms) v w e f a k =
    let ks = bound_anew (bytes_eq y x) x y p ms v w e f a k in
    (ks.0, bound_inside x ms v w e f ks.1.0 ks.1.1)
