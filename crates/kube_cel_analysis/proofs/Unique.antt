-- Two sorted lists with the same names are equal.
use Rattle.std.proofs.Common.{◌≡◌, ℕ, List, [], ◌∷◌, Bool, true, false, ◌||◌, Ordering, Less, Equal, Greater, nat_cmp, is_eq, refl, sym, ap, ◌∙◌, subst}
use Rattle.std.proofs.lemmas.Cmp.{nat_list_cmp_total}
use Rattle.std.proofs.lemmas.Map.Text.{is_eq-slice_cmp}
use Rattle.std.proofs.lemmas.Slice.Eq.{bytes_eq-Decides}
use Rattle.std.specs.Cmp.Lexicographic.{slice_cmp}
use Rattle.std.specs.List.{AllByRecursion, list_any}
use Rattle.std.specs.List.Sorted.{IsStrictlySortedBy}
use Rattle.std.specs.Ordering.{ordering_reverse}
use Rattle.std.specs.Str.{bytes_eq}
use Rattle.cel_syntax.specs.Names.{AreNames}

abbrev name_cmp : List ℕ → List ℕ → Ordering
name_cmp = slice_cmp nat_cmp

apart_bools : true ≡ false → ⊥
apart_bools e = cc

itself : (x : List ℕ) → bytes_eq x x ≡ true
itself x = (bytes_eq-Decides x x).1 refl

same_name : (x y : List ℕ) → name_cmp x y ≡ Equal → x ≡ y
same_name x y e = (bytes_eq-Decides x y).0 (sym (is_eq-slice_cmp x y) ∙ ap is_eq e)

below_out : (x : List ℕ) (ys : List (List ℕ)) → AllByRecursion (λ y. name_cmp x y ≡ Less) ys → list_any (bytes_eq x) ys ≡ false
below_out x [] h = refl
below_out x (y ∷ ys) h = ap (λ b. b || list_any (bytes_eq x) ys) (sym (is_eq-slice_cmp x y) ∙ ap is_eq h.0) ∙ below_out x ys h.1

below_all : (x y : List ℕ) (ys : List (List ℕ)) → name_cmp x y ≡ Less → AllByRecursion (λ z. name_cmp y z ≡ Less) ys → AllByRecursion (λ z. name_cmp x z ≡ Less) ys
below_all x y [] e h = tt
below_all x y (z ∷ ys) e h = (nat_list_cmp_total.trans x y z e h.0, below_all x y ys e h.1)

-- the first name of a list is in it
first_in : (x : List ℕ) (xs : List (List ℕ)) → list_any (bytes_eq x) (x ∷ xs) ≡ true
first_in x xs = ap (λ b. b || list_any (bytes_eq x) xs) (itself x)

-- a name below the first of a sorted list isn't in it
not_in : (x y : List ℕ) (ys : List (List ℕ)) → name_cmp x y ≡ Less → AllByRecursion (λ z. name_cmp y z ≡ Less) ys → list_any (bytes_eq x) (y ∷ ys) ≡ false
not_in x y ys e h = below_out x (y ∷ ys) (e, below_all x y ys e h)

-- sorted lists with the same names and the same first name have the same names after it
rest_agrees : (x : List ℕ) (xs ys : List (List ℕ)) → AllByRecursion (λ z. name_cmp x z ≡ Less) xs → AllByRecursion (λ z. name_cmp x z ≡ Less) ys
    → ((z : List ℕ) → list_any (bytes_eq z) (x ∷ xs) ≡ list_any (bytes_eq z) (x ∷ ys)) → (z : List ℕ) → list_any (bytes_eq z) xs ≡ list_any (bytes_eq z) ys
rest_agrees x xs ys hx hy e z = by (bytes_eq z x) refl
  where
    by : (b : Bool) → bytes_eq z x ≡ b → list_any (bytes_eq z) xs ≡ list_any (bytes_eq z) ys
    by true h =
        let same : z ≡ x = (bytes_eq-Decides z x).0 h in
        ap (λ w. list_any (bytes_eq w) xs) same ∙ below_out x xs hx ∙ sym (below_out x ys hy) ∙ ap (λ w. list_any (bytes_eq w) ys) (sym same)
    by false h = ap (λ b. b || list_any (bytes_eq z) xs) (sym h) ∙ e z ∙ ap (λ b. b || list_any (bytes_eq z) ys) h

lists_alike : (xs ys : List (List ℕ)) → IsStrictlySortedBy name_cmp xs → IsStrictlySortedBy name_cmp ys → ((z : List ℕ) → list_any (bytes_eq z) xs ≡ list_any (bytes_eq z) ys) → xs ≡ ys
unfolding IsStrictlySortedBy
lists_alike [] [] hx hy e = refl
lists_alike [] (y ∷ ys) hx hy e = absurd (apart_bools (sym (first_in y ys) ∙ sym (e y)))
lists_alike (x ∷ xs) [] hx hy e = absurd (apart_bools (sym (first_in x xs) ∙ e x))
lists_alike (x ∷ xs) (y ∷ ys) hx hy e = by (name_cmp x y) refl (λ h. lists_alike xs ys hx.1 hy.1 h)
  where
    by : (o : Ordering) → name_cmp x y ≡ o → (((z : List ℕ) → list_any (bytes_eq z) xs ≡ list_any (bytes_eq z) ys) → xs ≡ ys) → x ∷ xs ≡ y ∷ ys
    by Less h r = absurd (apart_bools (sym (first_in x xs) ∙ e x ∙ not_in x y ys h hy.0))
    by Greater h r = absurd (apart_bools (sym (first_in y ys) ∙ sym (e y) ∙ not_in y x xs (nat_list_cmp_total.antisymm y x ∙ ap ordering_reverse h) hx.0))
    by Equal h r =
        let same : y ≡ x = sym (same_name x y h) in
        let hy0 : AllByRecursion (λ z. name_cmp x z ≡ Less) ys = subst (λ w. AllByRecursion (λ z. name_cmp w z ≡ Less) ys) same hy.0 in
        let e0 : (z : List ℕ) → list_any (bytes_eq z) (x ∷ xs) ≡ list_any (bytes_eq z) (x ∷ ys) = λ z. e z ∙ ap (λ w. list_any (bytes_eq z) (w ∷ ys)) same in
        ap (λ w. w ∷ xs) (sym same) ∙ ap (λ ws. y ∷ ws) (r (rest_agrees x xs ys hx.0 hy0 e0))

-- sorted lists of exactly these names are equal
pub names_alike : (xs ys : List (List ℕ)) (has : List ℕ → Bool) → AreNames xs has → AreNames ys has → xs ≡ ys
names_alike xs ys has hx hy = lists_alike xs ys hx.ascending hy.ascending (λ z. hx.exactly z ∙ sym (hy.exactly z))
