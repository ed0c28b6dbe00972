-- Having two letters swapped is being one swap apart.
use Rattle.std.proofs.Common.{◌≡◌, ◌≢◌, ℕ, List, [], ◌∷◌, ◌++◌, Bool, true, false, ◌&&◌, eqb, cond, refl, ap, ◌∙◌}
use Rattle.std.proofs.lemmas.Bool.{eq-eqb, eqb-true}
use Rattle.std.proofs.lemmas.Slice.Eq.{bytes_eq-Decides}
use Rattle.std.specs.Str.{bytes_eq}
use Rattle.kube_manifests_texts.specs.Edits.{IsOneSwap}
use Rattle.kube_manifests_texts.specs.Spelling.{begins_swapped, two_letters_swapped}

itself : (k : ℕ) → eqb k k ≡ true
itself k = eq-eqb k k refl

differ_by : (k w : ℕ) → eqb k w ≡ false → k ≢ w
differ_by k w e = λ h. let same = eq-eqb k w h in cc

-- ---- texts with two letters swapped are one swap apart

more : (k : ℕ) (ks ws : List ℕ) → IsOneSwap ks ws → IsOneSwap (k ∷ ks) (k ∷ ws)
more k ks ws i = record {
  front = k ∷ i.front;
  back = i.back;
  first = i.first;
  second = i.second;
  is_text = ap (λ xs. k ∷ xs) i.is_text;
  is_word = ap (λ xs. k ∷ xs) i.is_word;
  differ = i.differ;
}

at_first : (k l : ℕ) (bs : List ℕ) → k ≢ l → IsOneSwap (k ∷ l ∷ bs) (l ∷ k ∷ bs)
at_first k l bs d = record {
  front = [];
  back = bs;
  first = k;
  second = l;
  is_text = refl;
  is_word = refl;
  differ = d;
}

begun : (k : ℕ) (ks : List ℕ) (w : ℕ) (ws : List ℕ) → eqb k w ≡ false → begins_swapped (k ∷ ks) (w ∷ ws) ≡ true → IsOneSwap (k ∷ ks) (w ∷ ws)
begun k [] w ws d h = cc
begun k (l ∷ ks) w [] d h = cc
begun k (l ∷ ks) w (v ∷ ws) d h = of_three (eqb k v) (eqb l w) (bytes_eq ks ws) refl refl refl h
  where
    of_three : (a b c : Bool) → eqb k v ≡ a → eqb l w ≡ b → bytes_eq ks ws ≡ c → (a && (b && c)) ≡ true → IsOneSwap (k ∷ l ∷ ks) (w ∷ v ∷ ws)
    of_three true true true x y z h =
        let first : k ≡ v = eqb-true k v x in
        let second : l ≡ w = eqb-true l w y in
        let rest : ks ≡ ws = (bytes_eq-Decides ks ws).0 z in
        rw (← first) (rw (← second) (rw (← rest) (at_first k l ks (differ_by k l (ap (eqb k) second ∙ d)))))
    of_three true true false x y z h = cc
    of_three true false c x y z h = cc
    of_three false b c x y z h = cc

pub swap_of : (ks ws : List ℕ) → two_letters_swapped ks ws ≡ true → IsOneSwap ks ws
swap_of [] ws e = cc
swap_of (k ∷ ks) [] e = cc
swap_of (k ∷ ks) (w ∷ ws) e = by (eqb k w) refl (λ h. swap_of ks ws h) e
  where
    by : (b : Bool) → eqb k w ≡ b → (two_letters_swapped ks ws ≡ true → IsOneSwap ks ws)
        → cond b (two_letters_swapped ks ws) (begins_swapped (k ∷ ks) (w ∷ ws)) ≡ true → IsOneSwap (k ∷ ks) (w ∷ ws)
    by true d r h = let same : k ≡ w = eqb-true k w d in rw (← same) (more k ks ws (r h))
    by false d r h = begun k ks w ws d h

-- ---- texts that are one swap apart have two letters swapped

along : (fs xs ys : List ℕ) → two_letters_swapped (fs ++ xs) (fs ++ ys) ≡ two_letters_swapped xs ys
along [] xs ys = refl
along (f ∷ fs) xs ys = ap (λ b. cond b (two_letters_swapped (fs ++ xs) (fs ++ ys)) (begins_swapped (f ∷ (fs ++ xs)) (f ∷ (fs ++ ys)))) (itself f) ∙ along fs xs ys

crossed : (k l : ℕ) (bs : List ℕ) → k ≢ l → two_letters_swapped (k ∷ l ∷ bs) (l ∷ k ∷ bs) ≡ true
crossed k l bs d = by (eqb k l) refl
  where
    by : (b : Bool) → eqb k l ≡ b → cond b (two_letters_swapped (l ∷ bs) (k ∷ bs)) (eqb k k && (eqb l l && bytes_eq bs bs)) ≡ true
    by true h = absurd (d (eqb-true k l h))
    by false h = ap (λ b. b && (eqb l l && bytes_eq bs bs)) (itself k) ∙ ap (λ b. b && bytes_eq bs bs) (itself l) ∙ (bytes_eq-Decides bs bs).1 refl

pub swapped_of : (ks ws : List ℕ) → IsOneSwap ks ws → two_letters_swapped ks ws ≡ true
swapped_of ks ws i =
    ap (λ x. two_letters_swapped x ws) i.is_text ∙ ap (λ x. two_letters_swapped (i.front ++ (i.first ∷ i.second ∷ i.back)) x) i.is_word
    ∙ along i.front (i.first ∷ i.second ∷ i.back) (i.second ∷ i.first ∷ i.back) ∙ crossed i.first i.second i.back i.differ
