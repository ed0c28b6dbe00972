-- Texts contained in texts.
use Rattle.std.proofs.Common.{◌≡◌, ℕ, List, [], ◌∷◌, ◌++◌, length, drop, Bool, true, false, refl, ap, subst}
use Rattle.std.specs.Prelude.{◌||◌, ◌↔◌, nat_eq}
use Rattle.std.specs.Bool.{Decides}
use Rattle.std.specs.List.{starts_with}
use Rattle.std.specs.Str.Iter.{HasSubslice}
use Rattle.std.proofs.lemmas.Bool.{eqb-true}
use Rattle.std.proofs.lemmas.Cmp.{nat_eq_equiv}
use Rattle.std.proofs.lemmas.Slice.Eq.{starts_is}
use Rattle.cel_stdlib.specs.Strings.{has_part}

decides : (a b : ℕ) → Decides (nat_eq a b) (a ≡ b)
decides a b = (eqb-true a b, λ e. subst (λ c. nat_eq a c ≡ true) e (nat_eq_equiv.refl a))

-- a text starts with the part exactly if the part is its first piece
starts : (s part : List ℕ) → (starts_with nat_eq s part ≡ true → s ≡ part ++ drop (length part) s) × ((rest : List ℕ) → s ≡ part ++ rest → starts_with nat_eq s part ≡ true)
starts s part = starts_is decides s part _ refl

or_later : (a b : Bool) → b ≡ true → a || b ≡ true
or_later true b h = refl
or_later false b h = h

later : (c : ℕ) (s part : List ℕ) → HasSubslice s part → HasSubslice (c ∷ s) part
later c s part h = (c ∷ h.0, h.1, ap (λ t. c ∷ t) h.2)

first : (s part : List ℕ) → starts_with nat_eq s part ≡ true → HasSubslice s part
first s part e = ([], drop (length part) s, (starts s part).0 e)

by_or : (a b : Bool) (P : Type 0) → (a ≡ true → P) → (b ≡ true → P) → a || b ≡ true → P
by_or true b P f g h = f refl
by_or false b P f g h = g h

part_to : (s part : List ℕ) → has_part s part ≡ true → HasSubslice s part
part_to [] part e = first [] part e
part_to (c ∷ s) part e =
    by_or (starts_with nat_eq (c ∷ s) part) (has_part s part) (HasSubslice (c ∷ s) part) (first (c ∷ s) part) (λ h. later c s part (part_to s part h)) e

part_from : (s part a b : List ℕ) → s ≡ a ++ (part ++ b) → has_part s part ≡ true
part_from [] part [] b e = (starts [] part).1 b e
part_from [] part (d ∷ a) b e = absurd (cc)
part_from (c ∷ s) part [] b e = let here = (starts (c ∷ s) part).1 b e in rw here
part_from (c ∷ s) part (d ∷ a) b e =
    let rest : s ≡ a ++ (part ++ b) = cc in
    or_later _ _ (part_from s part a b rest)

same_bool : (a b : Bool) → (a ≡ true → b ≡ true) → (b ≡ true → a ≡ true) → a ≡ b
same_bool true true to from = refl
same_bool true false to from = let e : false ≡ true = to refl in absurd (cc)
same_bool false true to from = from refl
same_bool false false to from = refl

pub part_found : (r : Bool) (part s : List ℕ) → (r ≡ true) ↔ HasSubslice s part → r ≡ has_part s part
part_found r part s h = same_bool r (has_part s part)
    (λ e. let p = h.0 e in part_from s part p.0 p.1 p.2)
    (λ e. h.1 (part_to s part e))
