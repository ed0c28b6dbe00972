-- The spans that a loop over matches has collected.
use Rattle.std.proofs.Common.{◌≡◌, ℕ, ◌+◌, ◌≤◌, List, [], ◌∷◌, ◌++◌, map, take, length, Option, Some, None, refl, sym, ap, ◌∙◌, arith, append_assoc, subst}
use Rattle.std.proofs.Math.Seq.{take-append_seam}
use Rattle.std.proofs.lemmas.List.{append-nil, take_all}
use Rattle.regex.specs.Strings.{spans_left, match_span, match_haystack, matches_haystack, placed_span, placed_spans_left}
use Rattle.regex.specs.declared.string.matcher.Match.{Match}
use Rattle.regex.specs.declared.string.iter.Matches.{Matches}
use Rattle.cel_patterns.specs.Book.{first_of, IsSpanIn}

-- no more than the limit
abbrev pub IsUpTo : Option ℕ → ℕ → Type 0
IsUpTo None n = Unit {0}
IsUpTo (Some most) n = n ≤ most

-- ---- spans with their text

abbrev pub placed_in : List ℕ → List (ℕ × ℕ) → List (List ℕ × (ℕ × ℕ))
placed_in text spans = map (λ x. (text, x)) spans

seconds : {A B : Type 0} (a : A) (xs : List B) → map (λ (p : A × B). p.1) (map (λ x. (a, x)) xs) ≡ xs
seconds a [] = refl
seconds a (x ∷ xs) = ap (λ ys. x ∷ ys) (seconds a xs)

seconds_append : {A B : Type 0} (a : A) (xs : List B) (ys : List (A × B)) → map (λ (p : A × B). p.1) (map (λ x. (a, x)) xs ++ ys) ≡ xs ++ map (λ (p : A × B). p.1) ys
seconds_append a [] ys = refl
seconds_append a (x ∷ xs) ys = ap (λ zs. x ∷ zs) (seconds_append a xs ys)

-- the invariant of the loop tells what the spans are
pub whole_spans : (s t : Matches) (xs : List (ℕ × ℕ)) → placed_in (matches_haystack t) xs ++ placed_spans_left s ≡ placed_spans_left t → xs ++ spans_left s ≡ spans_left t
whole_spans s t xs e =
    ap (λ ys. xs ++ ys) (sym (seconds (matches_haystack s) (spans_left s))) ∙ sym (seconds_append (matches_haystack t) xs (placed_spans_left s))
    ∙ ap (map (λ (p : List ℕ × (ℕ × ℕ)). p.1)) e ∙ seconds (matches_haystack t) (spans_left t)

pub all_spans : (s t : Matches) (xs : List (ℕ × ℕ)) → placed_in (matches_haystack t) xs ++ placed_spans_left s ≡ placed_spans_left t → placed_spans_left s ≡ [] → xs ++ [] ≡ spans_left t
all_spans s t xs e done =
    ap (λ ys. xs ++ ys) (sym (sym (seconds (matches_haystack s) (spans_left s)) ∙ ap (map (λ (p : List ℕ × (ℕ × ℕ)). p.1)) done)) ∙ whole_spans s t xs e

-- a match starts and ends between characters of its text
pub span_inside : (text : List ℕ) (x : Match) → match_haystack x ≡ text → IsSpanIn text (match_span x)
span_inside text x e = subst (λ (t : List ℕ). IsSpanIn t (match_span x)) e (x.ordered, x.inside, x.starts_cleanly, x.ends_cleanly)

-- the next match is in the same text
at_seam : {A B : Type 0} (a : A) (p : A × B) (xs all : List B) (rest : List (A × B)) → map (λ x. (a, x)) xs ++ (p ∷ rest) ≡ map (λ x. (a, x)) all → p.0 ≡ a
at_seam a p [] [] rest e = cc
at_seam a p [] (y ∷ all) rest e = cc
at_seam a p (x ∷ xs) [] rest e = cc
at_seam a p (x ∷ xs) (y ∷ all) rest e = at_seam a p xs all rest cc

pub same_haystack : (s t : Matches) (x : Match) (xs : List (ℕ × ℕ)) (rest : List (List ℕ × (ℕ × ℕ))) → placed_in (matches_haystack t) xs ++ placed_spans_left s ≡ placed_spans_left t
    → placed_spans_left s ≡ placed_span x ∷ rest → match_haystack x ≡ matches_haystack t
same_haystack s t x xs rest e step =
    at_seam (matches_haystack t) (placed_span x) xs (spans_left t) rest (ap (λ ys. placed_in (matches_haystack t) xs ++ ys) (sym step) ∙ e)

placed_append : (text : List ℕ) (xs ys : List (ℕ × ℕ)) → placed_in text (xs ++ ys) ≡ placed_in text xs ++ placed_in text ys
placed_append text [] ys = refl
placed_append text (x ∷ xs) ys = ap (λ (zs : List (List ℕ × (ℕ × ℕ))). (text, x) ∷ zs) (placed_append text xs ys)

pub step_whole : (text : List ℕ) (xs : List (ℕ × ℕ)) (x : ℕ × ℕ) (p : List ℕ × (ℕ × ℕ)) (rest more all : List (List ℕ × (ℕ × ℕ))) → placed_in text xs ++ more ≡ all → more ≡ p ∷ rest
    → p ≡ (text, x) → placed_in text (xs ++ (x ∷ [])) ++ rest ≡ all
step_whole text xs x p rest more all e step is =
    ap (λ ys. ys ++ rest) (placed_append text xs (x ∷ [])) ∙ append_assoc (placed_in text xs) (placed_in text (x ∷ [])) rest
    ∙ ap (λ (q : List ℕ × (ℕ × ℕ)). placed_in text xs ++ (q ∷ rest)) (sym is) ∙ ap (λ ys. placed_in text xs ++ ys) (sym step) ∙ e

-- ---- the limit

pub took_all : {A : Type 0} (limit : Option ℕ) (xs all : List A) → xs ++ [] ≡ all → IsUpTo limit (length xs) → xs ≡ first_of limit all
took_all None xs all e h = sym (append-nil xs) ∙ e
took_all (Some most) xs all e h = let same : xs ≡ all = sym (append-nil xs) ∙ e in same ∙ sym (take_all most all (subst (λ (ys : List _). length ys ≤ most) same h))

pub took_most : {A : Type 0} (limit : Option ℕ) (xs rest all : List A) → xs ++ rest ≡ all → limit ≡ Some (length xs) → xs ≡ first_of limit all
took_most limit xs rest all e h = sym (take-append_seam xs rest) ∙ ap (take (length xs)) e ∙ ap (λ (l : Option ℕ). first_of l all) (sym h)

pub still_within : (limit : Option ℕ) (n : ℕ) → IsUpTo limit n → (limit ≡ Some n → ⊥) → IsUpTo limit (n + 1)
still_within None n h other = tt
still_within (Some most) n h other =
    let apart : most ≡ n → ⊥ = λ e. other (ap Some e) in
    omega (arith, apart)
