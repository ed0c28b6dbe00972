-- The bytes of short texts as words.
use Rattle.std.proofs.Common.{◌≡◌, ◌∙◌, ℕ, zero, suc, ◌+◌, ◌<◌, List, [], ◌∷◌, ◌++◌, length, get_or, take, drop, subst, sym, ap, arith}
use Rattle.std.proofs.lemmas.List.{take-append-drop, take_all, get_or-drop, length-drop, drop-drop}

pub small_take : (n : ℕ) (xs : List ℕ) → ((i : ℕ) → get_or xs i 0 < 256) → (i : ℕ) → get_or (take n xs) i 0 < 256
small_take zero xs small i = omega arith
small_take (suc n) [] small i = small i
small_take (suc n) (x ∷ xs) small zero = small 0
small_take (suc n) (x ∷ xs) small (suc i) = small_take n xs (λ j. small (suc j)) i

pub small_drop : (n : ℕ) (xs : List ℕ) → ((i : ℕ) → get_or xs i 0 < 256) → (i : ℕ) → get_or (drop n xs) i 0 < 256
small_drop n xs small i = subst (λ x. x < 256) (sym (get_or-drop n xs i 0)) (small (n + i))

-- 14 bytes are 8, 4 and 2
three_words : (xs : List ℕ) → length xs ≡ 14 → xs ≡ take 8 xs ++ (take 4 (drop 8 xs) ++ take 2 (drop 12 xs))
three_words xs l =
    let rest = length-drop 12 xs in
    let last : take 2 (drop 12 xs) ≡ drop 12 xs = take_all 2 (drop 12 xs) (omega (arith, rest, l)) in
    sym (take-append-drop 8 xs)
    ∙ ap (λ ys. take 8 xs ++ ys) (sym (take-append-drop 4 (drop 8 xs)) ∙ ap (λ ys. take 4 (drop 8 xs) ++ ys) (drop-drop 4 8 xs ∙ sym last))

pub words_are_all : (xs ys : List ℕ) → length xs ≡ 14 → length ys ≡ 14 → take 8 xs ≡ take 8 ys → take 4 (drop 8 xs) ≡ take 4 (drop 8 ys) → take 2 (drop 12 xs) ≡ take 2 (drop 12 ys) → xs ≡ ys
words_are_all xs ys l m first second third =
    three_words xs l ∙ (λ i. first i ++ (second i ++ third i)) ∙ sym (three_words ys m)
