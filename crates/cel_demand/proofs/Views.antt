-- Members in a list: one more member, or another demand at an index.
use Rattle.std.proofs.Common.{◌≡◌, ℕ, zero, suc, ◌<◌, ◌≤◌, List, [], ◌∷◌, map, drop, length, get_or, Ordering, Less, Equal, Greater, refl, sym, ap, ◌∙◌, arith, drop-cons}
use Rattle.std.specs.Prelude.{insert, slice_set}
use Rattle.std.specs.Ordering.{match_ordering}
use Rattle.cel_demand.specs.Demand.{part_of, members_view}
use Rattle.cel_demand.specs.Part.{Part, Members, no_members, member, with_member}
use Rattle.cel_demand.specs.Places.{Entry, name_of, order_to, IsAfter, IsAt, BelongsAt}
use Rattle.cel_demand.specs.declared.demand.Demand.{Demand}

-- ---- copies

abbrev pub named : Entry → List ℕ × Part
named e = (name_of e, part_of e.1)

abbrev listed : List (List ℕ × Part) → Members
listed [] = no_members
listed (e ∷ es) = member e.0 e.1 (listed es)

view_listed : (es : List Entry) → members_view es ≡ listed (map named es)
view_listed [] = refl
view_listed (e ∷ es) = ap (member (name_of e) (part_of e.1)) (view_listed es)

-- lists with the same names and parts have the same view
pub same_members : (es fs : List Entry) → map named es ≡ map named fs → members_view es ≡ members_view fs
same_members es fs h = view_listed es ∙ ap listed h ∙ sym (view_listed fs)

-- ---- one more member

-- where the order of the name and the first member's is known
with_first : (x : List ℕ) (p : Part) (joined : Part → Part) (f : Entry) (fs : List Entry) (o : Ordering) → order_to x f ≡ o
    → match_ordering o (member x p (members_view (f ∷ fs))) (member (name_of f) (joined (part_of f.1)) (members_view fs)) (member (name_of f) (part_of f.1) (with_member x p joined (members_view fs)))
    ≡ with_member x p joined (members_view (f ∷ fs))
with_first x p joined f fs o h =
    ap (λ o. match_ordering o (member x p (members_view (f ∷ fs))) (member (name_of f) (joined (part_of f.1)) (members_view fs)) (member (name_of f) (part_of f.1) (with_member x p joined (members_view fs)))) (sym h)

-- a new member at the index at which it belongs
pub inserted : (x : List ℕ) (p : Part) (joined : Part → Part) (es : List Entry) (i : ℕ) (e : Entry) → BelongsAt x es i → name_of e ≡ x → part_of e.1 ≡ p → members_view (insert es i e) ≡ with_member x p joined (members_view es)
inserted x p joined [] zero e place name part = λ k. member (name k) (part k) no_members
inserted x p joined [] (suc i) e place name part = absurd place
inserted x p joined (f ∷ fs) zero e place name part =
    (λ k. member (name k) (part k) (members_view (f ∷ fs))) ∙ with_first x p joined f fs Less place
inserted x p joined (f ∷ fs) (suc i) e place name part =
    ap (member (name_of f) (part_of f.1)) (inserted x p joined fs i e place.1 name part) ∙ with_first x p joined f fs Greater place.0

-- another demand at the member with a name
pub set_there : (x : List ℕ) (p : Part) (joined : Part → Part) (es : List Entry) (i : ℕ) (e : Entry) (d : Demand) → IsAt x es i → e ≡ get_or es i e → part_of d ≡ joined (part_of e.1)
    → members_view (slice_set es i (e.0, d)) ≡ with_member x p joined (members_view es)
set_there x p joined [] i e d place is part = absurd place
set_there x p joined (f ∷ fs) zero e d place is part =
    (λ k. member (name_of (is k)) ((part ∙ ap (λ g. joined (part_of g.1)) is) k) (members_view fs)) ∙ with_first x p joined f fs Equal place
set_there x p joined (f ∷ fs) (suc i) e d place is part =
    ap (member (name_of f) (part_of f.1)) (set_there x p joined fs i e d place.1 is part) ∙ with_first x p joined f fs Greater place.0

-- ---- the member at an index

pub same_entry : (es : List Entry) (i : ℕ) (e r : Entry) → i < length es → e ≡ get_or es i e → r ≡ get_or es i r → e ≡ r
same_entry [] i e r lt is at = absurd (omega arith)
same_entry (f ∷ fs) zero e r lt is at = is ∙ sym at
same_entry (f ∷ fs) (suc i) e r lt is at = same_entry fs i e r (omega (arith, lt)) is at

-- ---- where a name is, or else where it belongs

pub after_next : (x : List ℕ) (es : List Entry) (i : ℕ) (e : Entry) → i < length es → e ≡ get_or es i e → order_to x e ≡ Greater → IsAfter x es i → IsAfter x es (suc i)
after_next x [] i e lt is order after = absurd (omega (arith, lt))
after_next x (f ∷ fs) zero e lt is order after = (ap (order_to x) (sym is) ∙ order, tt)
after_next x (f ∷ fs) (suc i) e lt is order after = (after.0, after_next x fs i e (omega (arith, lt)) is order after.1)

pub at_this : (x : List ℕ) (es : List Entry) (i : ℕ) (e : Entry) → i < length es → e ≡ get_or es i e → order_to x e ≡ Equal → IsAfter x es i → IsAt x es i
at_this x [] i e lt is order after = absurd (omega (arith, lt))
at_this x (f ∷ fs) zero e lt is order after = ap (order_to x) (sym is) ∙ order
at_this x (f ∷ fs) (suc i) e lt is order after = (after.0, at_this x fs i e (omega (arith, lt)) is order after.1)

pub before_this : (x : List ℕ) (es : List Entry) (i : ℕ) (e : Entry) → i < length es → e ≡ get_or es i e → order_to x e ≡ Less → IsAfter x es i → BelongsAt x es i
before_this x [] i e lt is order after = absurd (omega (arith, lt))
before_this x (f ∷ fs) zero e lt is order after = ap (order_to x) (sym is) ∙ order
before_this x (f ∷ fs) (suc i) e lt is order after = (after.0, before_this x fs i e (omega (arith, lt)) is order after.1)

pub after_all : (x : List ℕ) (es : List Entry) (i : ℕ) → length es ≤ i → IsAfter x es i → BelongsAt x es i
after_all x [] zero le after = tt
after_all x [] (suc i) le after = absurd after
after_all x (f ∷ fs) zero le after = absurd (omega (arith, le))
after_all x (f ∷ fs) (suc i) le after = (after.0, after_all x fs i (omega (arith, le)) after.1)

-- ---- the demand on a name

pub one_before : (es : List Entry) (i j : ℕ) (e : Entry) → i < length es → e ≡ get_or es i e → suc i ≡ j → members_view (drop i es) ≡ member (name_of e) (part_of e.1) (members_view (drop j es))
one_before es i j e lt is next = ap members_view (drop-cons es i e lt)
    ∙ ap (λ f. member (name_of f) (part_of f.1) (members_view (drop (suc i) es))) (sym is)
    ∙ ap (λ n. member (name_of e) (part_of e.1) (members_view (drop n es))) next
