-- The faults of a text's parts, one part at a time.
use Rattle.std.proofs.Common.{◌≡◌, ℕ, suc, ◌+◌, ◌<◌, ◌≤◌, Bool, true, false, cond, not, List, [], ◌∷◌, ◌++◌, length, take, drop, Some, None, refl, sym, ap, ◌∙◌, append_assoc, position, arith}
use Rattle.std.specs.List.{slice_split, onto_first, position_or_len}
use Rattle.std.proofs.lemmas.List.Splits.{slice_split_first, length-slice_split}
use Rattle.kube_types_formats.specs.Labels.{faults_of_parts}
use Rattle.kube_types_formats.proofs.OffsetLemmas.{position_is, position_none}

split_none : (p : ℕ → Bool) (text : List ℕ) → length text ≤ position_or_len p text → slice_split p text ≡ text ∷ []
split_none p [] h = refl
split_none p (c ∷ cs) h =
    by_first (p c) (slice_split p cs) (position_or_len p cs) h (λ later. split_none p cs later)
  where
    by_first : (b : Bool) (parts : List (List ℕ)) (n : ℕ) → suc (length cs) ≤ cond (not b) (1 + n) 0 → (length cs ≤ n → parts ≡ cs ∷ []) → cond b ([] ∷ parts) (onto_first c parts) ≡ (c ∷ cs) ∷ []
    by_first true parts n longer rest = absurd (omega arith)
    by_first false parts n longer rest = ap (onto_first c) (rest (omega arith))

first_of_parts : (each last : List ℕ → List (List ℕ)) (part : List ℕ) (parts : List (List ℕ)) → 0 < length parts → faults_of_parts each last (part ∷ parts) ≡ each part ++ faults_of_parts each last parts
unfolding faults_of_parts
first_of_parts each last part [] h = absurd (omega arith)
first_of_parts each last part (next ∷ more) h = refl

-- the part before the first mark, and the others
pub parts_more : (p : ℕ → Bool) (each last : List ℕ → List (List ℕ)) (text : List ℕ) (i : ℕ) → position p text ≡ Some i → faults_of_parts each last (slice_split p text) ≡ each (take i text) ++ faults_of_parts each last (slice_split p (drop (i + 1) text))
parts_more p each last text i e =
    let found = position_is p text i e in
    let within : position_or_len p text < length text = omega arith in
    let cut = slice_split_first p text 0 within in
    let cut_here : slice_split p text ≡ take i text ∷ slice_split p (drop (i + 1) text) = cut ∙ ap (λ (n : ℕ). take n text ∷ slice_split p (drop (n + 1) text)) found.0 in
    let some : 0 < length (slice_split p (drop (i + 1) text)) = omega (arith, length-slice_split p (drop (i + 1) text)) in
    ap (faults_of_parts each last) cut_here ∙ first_of_parts each last (take i text) (slice_split p (drop (i + 1) text)) some

-- a single part
pub parts_end : (p : ℕ → Bool) (each last : List ℕ → List (List ℕ)) (text : List ℕ) → position p text ≡ None → faults_of_parts each last (slice_split p text) ≡ last text
unfolding faults_of_parts
parts_end p each last text e = ap (faults_of_parts each last) (split_none p text (position_none p text e))

-- one pass of a loop over the parts
pub parts_turn : (p : ℕ → Bool) (each last : List ℕ → List (List ℕ)) (text part rest : List ℕ) (i : ℕ) (before after : List (List ℕ)) → position p text ≡ Some i → part ≡ take i text → rest ≡ drop (i + 1) text → after ≡ before ++ each part → after ++ faults_of_parts each last (slice_split p rest) ≡ before ++ faults_of_parts each last (slice_split p text)
parts_turn p each last text part rest i before after e first others added =
    ap (λ texts. texts ++ faults_of_parts each last (slice_split p rest)) added
    ∙ (append_assoc before (each part) (faults_of_parts each last (slice_split p rest))
    ∙ ap (λ texts. before ++ texts) ((λ k. each (first k) ++ faults_of_parts each last (slice_split p (others k))) ∙ sym (parts_more p each last text i e)))
