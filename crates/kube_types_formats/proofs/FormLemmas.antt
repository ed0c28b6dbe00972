-- A text against a form, byte by byte.
use Rattle.std.proofs.Common.{◌≡◌, ℕ, suc, ◌+◌, ◌<◌, ◌≤◌, Bool, true, false, ◌&&◌, List, [], ◌∷◌, length, get_or, drop, refl, ap, add-one, drop-cons, arith}
use Rattle.std.proofs.lemmas.List.{drop_all}
use Rattle.kube_types_formats.specs.Forms.{fits_mark, fits}

-- one more byte
pub fits_step : (form text : List ℕ) (i : ℕ) → i < length form → length form ≡ length text → fits (drop i form) (drop i text) ≡ (fits_mark (get_or form i 0) (get_or text i 0) && fits (drop (i + 1) form) (drop (i + 1) text))
fits_step form text i h same =
    let marks = drop-cons form i 0 h in
    let there : i < length text = omega arith in
    let bytes = drop-cons text i 0 there in
    rw add-one (λ k. fits (marks k) (bytes k))

-- no byte is left
pub fits_end : (form text : List ℕ) (i : ℕ) → length form ≤ i → length form ≡ length text → fits (drop i form) (drop i text) ≡ true
fits_end form text i h same =
    let there : length text ≤ i = omega arith in
    λ k. fits (drop_all i form h k) (drop_all i text there k)

-- a text of a different length
pub fits_lengths : (form text : List ℕ) → (length form ≡ length text → ⊥) → fits form text ≡ false
fits_lengths [] [] h = absurd (h refl)
fits_lengths [] (c ∷ cs) h = refl
fits_lengths (m ∷ ms) [] h = refl
fits_lengths (m ∷ ms) (c ∷ cs) h =
    rw (fits_lengths ms cs (λ same. h (ap suc same))) (and_no (fits_mark m c))
  where
    and_no : (b : Bool) → (b && false) ≡ false
    and_no true = refl
    and_no false = refl
