-- Being one letter off is being one edit apart.
use Rattle.std.proofs.Common.{◌≡◌, ◌≢◌, ◌≤◌, ℕ, List, [], ◌∷◌, ◌++◌, Bool, true, false, ◌||◌, eqb, cond, length, refl, sym, ap, ◌∙◌, arith, lit≤}
use Rattle.std.proofs.lemmas.Bool.{eq-eqb, eqb-true}
use Rattle.std.proofs.lemmas.Slice.Eq.{bytes_eq-Decides}
use Rattle.std.specs.Str.{bytes_eq}
use Rattle.kube_manifests_texts.specs.Edits.{IsOneEdit}
use Rattle.kube_manifests_texts.specs.Spelling.{is_end, one_letter_off}

itself : (k : ℕ) → eqb k k ≡ true
itself k = eq-eqb k k refl

same_text : (ks : List ℕ) → bytes_eq ks ks ≡ true
same_text ks = (bytes_eq-Decides ks ks).1 refl

apart_bools : true ≡ false → ⊥
apart_bools e = cc

or_third : (a b : Bool) → (a || (b || true)) ≡ true
or_third true b = refl
or_third false true = refl
or_third false false = refl

or_second : (a b c : Bool) → b ≡ true → (a || (b || c)) ≡ true
or_second true b c e = refl
or_second false b c e = ap (λ x. x || c) e

-- ---- texts that are one letter off are one edit apart

ended : (cs : List ℕ) → is_end cs ≡ true → cs ≡ []
ended [] e = refl
ended (c ∷ cs) e = cc

only_differs : (k : ℕ) → (k ∷ []) ≢ []
only_differs k = λ e. cc

none_differs : (w : ℕ) → [] ≢ (w ∷ [])
none_differs w = λ e. cc

more : (k : ℕ) (ks ws : List ℕ) → IsOneEdit ks ws → IsOneEdit (k ∷ ks) (k ∷ ws)
more k ks ws i = record {
  front = k ∷ i.front;
  back = i.back;
  of_text = i.of_text;
  of_word = i.of_word;
  is_text = ap (λ xs. k ∷ xs) i.is_text;
  is_word = ap (λ xs. k ∷ xs) i.is_word;
  text_least = i.text_least;
  word_least = i.word_least;
  differ = i.differ;
}

put_in : (w : ℕ) (ks : List ℕ) → IsOneEdit ks (w ∷ ks)
put_in w ks = record {
  front = [];
  back = ks;
  of_text = [];
  of_word = w ∷ [];
  is_text = refl;
  is_word = refl;
  text_least = lit≤ tt;
  word_least = lit≤ tt;
  differ = none_differs w;
}

left_out : (k : ℕ) (ws : List ℕ) → IsOneEdit (k ∷ ws) ws
left_out k ws = record {
  front = [];
  back = ws;
  of_text = k ∷ [];
  of_word = [];
  is_text = refl;
  is_word = refl;
  text_least = lit≤ tt;
  word_least = lit≤ tt;
  differ = only_differs k;
}

firsts_differ : (k w : ℕ) → eqb k w ≡ false → (k ∷ []) ≢ (w ∷ [])
firsts_differ k w e = λ h. let same : k ≡ w = cc in apart_bools (sym (eq-eqb k w same) ∙ e)

changed : (k w : ℕ) (ks : List ℕ) → eqb k w ≡ false → IsOneEdit (k ∷ ks) (w ∷ ks)
changed k w ks e = record {
  front = [];
  back = ks;
  of_text = k ∷ [];
  of_word = w ∷ [];
  is_text = refl;
  is_word = refl;
  text_least = lit≤ tt;
  word_least = lit≤ tt;
  differ = firsts_differ k w e;
}

pub edit_of : (ks ws : List ℕ) → one_letter_off ks ws ≡ true → IsOneEdit ks ws
edit_of [] [] e = cc
edit_of [] (w ∷ ws) e = let none : ws ≡ [] = ended ws e in rw none (put_in w [])
edit_of (k ∷ ks) [] e = let none : ks ≡ [] = ended ks e in rw none (left_out k [])
edit_of (k ∷ ks) (w ∷ ws) e = by (eqb k w) refl (λ h. edit_of ks ws h) e
  where
    of_three : (a b c : Bool) → eqb k w ≡ false → bytes_eq ks ws ≡ a → bytes_eq (k ∷ ks) ws ≡ b → bytes_eq ks (w ∷ ws) ≡ c → (a || (b || c)) ≡ true → IsOneEdit (k ∷ ks) (w ∷ ws)
    of_three true b c d x y z h = let same : ks ≡ ws = (bytes_eq-Decides ks ws).0 x in rw (← same) (changed k w ks d)
    of_three false true c d x y z h = let same : k ∷ ks ≡ ws = (bytes_eq-Decides (k ∷ ks) ws).0 y in rw (← same) (put_in w (k ∷ ks))
    of_three false false true d x y z h = let same : ks ≡ w ∷ ws = (bytes_eq-Decides ks (w ∷ ws)).0 z in rw same (left_out k (w ∷ ws))
    of_three false false false d x y z h = cc

    by : (b : Bool) → eqb k w ≡ b → (one_letter_off ks ws ≡ true → IsOneEdit ks ws)
        → cond b (one_letter_off ks ws) (bytes_eq ks ws || (bytes_eq (k ∷ ks) ws || bytes_eq ks (w ∷ ws))) ≡ true → IsOneEdit (k ∷ ks) (w ∷ ws)
    by true d r h = let same : k ≡ w = eqb-true k w d in rw (← same) (more k ks ws (r h))
    by false d r h = of_three (bytes_eq ks ws) (bytes_eq (k ∷ ks) ws) (bytes_eq ks (w ∷ ws)) d refl refl refl h

-- ---- texts that are one edit apart are one letter off

along : (fs xs ys : List ℕ) → one_letter_off (fs ++ xs) (fs ++ ys) ≡ one_letter_off xs ys
along [] xs ys = refl
along (f ∷ fs) xs ys = ap (λ b. cond b (one_letter_off (fs ++ xs) (fs ++ ys)) (bytes_eq (fs ++ xs) (fs ++ ys) || (bytes_eq (f ∷ (fs ++ xs)) (fs ++ ys) || bytes_eq (fs ++ xs) (f ∷ (fs ++ ys))))) (itself f)
    ∙ along fs xs ys

longer : (k : ℕ) (ws : List ℕ) → one_letter_off (k ∷ ws) ws ≡ true
longer k [] = refl
longer k (w ∷ ws) = by (eqb k w) (longer w ws)
  where
    by : (b : Bool) → one_letter_off (w ∷ ws) ws ≡ true
        → cond b (one_letter_off (w ∷ ws) ws) (bytes_eq (w ∷ ws) ws || (bytes_eq (k ∷ w ∷ ws) ws || bytes_eq (w ∷ ws) (w ∷ ws))) ≡ true
    by true r = r
    by false r = ap (λ c. bytes_eq (w ∷ ws) ws || (bytes_eq (k ∷ w ∷ ws) ws || c)) (same_text (w ∷ ws)) ∙ or_third (bytes_eq (w ∷ ws) ws) (bytes_eq (k ∷ w ∷ ws) ws)

shorter : (w : ℕ) (ks : List ℕ) → one_letter_off ks (w ∷ ks) ≡ true
shorter w [] = refl
shorter w (k ∷ ks) = by (eqb k w) (shorter k ks)
  where
    by : (b : Bool) → one_letter_off ks (k ∷ ks) ≡ true
        → cond b (one_letter_off ks (k ∷ ks)) (bytes_eq ks (k ∷ ks) || (bytes_eq (k ∷ ks) (k ∷ ks) || bytes_eq ks (w ∷ k ∷ ks))) ≡ true
    by true r = r
    by false r = or_second (bytes_eq ks (k ∷ ks)) (bytes_eq (k ∷ ks) (k ∷ ks)) (bytes_eq ks (w ∷ k ∷ ks)) (same_text (k ∷ ks))

other : (k w : ℕ) (bs : List ℕ) → (k ∷ []) ≢ (w ∷ []) → one_letter_off (k ∷ bs) (w ∷ bs) ≡ true
other k w bs d = by (eqb k w) refl
  where
    by : (b : Bool) → eqb k w ≡ b → cond b (one_letter_off bs bs) (bytes_eq bs bs || (bytes_eq (k ∷ bs) bs || bytes_eq bs (w ∷ bs))) ≡ true
    by true h = let same : k ≡ w = eqb-true k w h in absurd (d (ap (λ x. x ∷ []) same))
    by false h = ap (λ c. c || (bytes_eq (k ∷ bs) bs || bytes_eq bs (w ∷ bs))) (same_text bs)

apart : (ks ws bs : List ℕ) → length ks ≤ 1 → length ws ≤ 1 → ks ≢ ws → one_letter_off (ks ++ bs) (ws ++ bs) ≡ true
apart [] [] bs x y d = absurd (d refl)
apart (k ∷ []) [] bs x y d = longer k bs
apart [] (w ∷ []) bs x y d = shorter w bs
apart (k ∷ []) (w ∷ []) bs x y d = other k w bs d
apart (k ∷ l ∷ ks) ws bs x y d = let no : ⊥ = omega (arith, x) in absurd no
apart [] (w ∷ v ∷ ws) bs x y d = let no : ⊥ = omega (arith, y) in absurd no
apart (k ∷ []) (w ∷ v ∷ ws) bs x y d = let no : ⊥ = omega (arith, y) in absurd no

pub off_of : (ks ws : List ℕ) → IsOneEdit ks ws → one_letter_off ks ws ≡ true
off_of ks ws i = ap (λ x. one_letter_off x ws) i.is_text ∙ ap (λ x. one_letter_off (i.front ++ (i.of_text ++ i.back)) x) i.is_word
    ∙ along i.front (i.of_text ++ i.back) (i.of_word ++ i.back) ∙ apart i.of_text i.of_word i.back i.text_least i.word_least i.differ
