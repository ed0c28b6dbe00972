-- Trusted by laws alone.
-- One edit between two texts: an insertion, a removal or a change of one character (Levenshtein,
-- "Binary codes capable of correcting deletions, insertions, and reversals", 1966), and a swap of
-- two neighbours (Damerau, "A technique for computer detection and correction of spelling errors",
-- 1964).
use Rattle.std.specs.Prelude.{◌≡◌, ◌≢◌, ◌≤◌, ℕ, List, ◌∷◌, ◌++◌, length}

-- the texts share a prefix and a suffix; between these, one of them has an extra character, or each
-- has one character and the two differ
pub record IsOneEdit (text word : List ℕ) : Type 0 where
  pub front : List ℕ
  pub back : List ℕ
  pub of_text : List ℕ
  pub of_word : List ℕ
  pub is_text : text ≡ front ++ (of_text ++ back)
  pub is_word : word ≡ front ++ (of_word ++ back)
  pub text_least : length of_text ≤ 1
  pub word_least : length of_word ≤ 1
  pub differ : of_text ≢ of_word

-- the texts share a prefix and a suffix; between these are two different characters, in one text
-- the other way round than in the other
pub record IsOneSwap (text word : List ℕ) : Type 0 where
  pub front : List ℕ
  pub back : List ℕ
  pub first : ℕ
  pub second : ℕ
  pub is_text : text ≡ front ++ (first ∷ second ∷ back)
  pub is_word : word ≡ front ++ (second ∷ first ∷ back)
  pub differ : first ≢ second
