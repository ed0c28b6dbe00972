-- The scan finds the longest token at the front.
use Rattle.std.proofs.Common.{◌≡◌, ℕ, suc, zero, ◌+◌, ◌<◌, ◌≤◌, refl, sym, ◌∙◌, subst, arith, true, false, Some, None, List, [], ◌∷◌, take, drop, length, get_or, one-add}
use Rattle.std.specs.Prelude.{nat_eq}
use Rattle.std.specs.List.{prefix_len}
use Rattle.std.proofs.lemmas.Bool.{eqb-true}
use Rattle.std.proofs.lemmas.List.Sums.{prefix_len-le-length}
use Rattle.cel_syntax_lexer.specs.declared.punctuator.Punctuator.{Punctuator}
use Rattle.cel_syntax_lexer.specs.Token.{Token, word, number, quoted, punctuator}
use Rattle.cel_syntax_lexer.specs.Strings.{is_quote, is_string, is_prefixed}
use Rattle.cel_syntax_lexer.specs.Tokens.{is_letter, is_word_byte, one_byte, two_bytes, two_at_front, token_of_bytes, Longest}
use Rattle.cel_syntax_lexer.specs.Spelling.{some_then, LongestSpelling}
use Rattle.cel_syntax_lexer.specs.Numbers.{is_exponent, is_fraction, is_end_or_suffix, is_hexadecimal, is_after_digits, is_decimal, is_number}
use Rattle.cel_syntax_lexer.proofs.Spelling.{class_is_not}
use Rattle.cel_syntax_lexer.proofs.Runs.{all_front, all_longer}

pub some_none : {A : Type 0} {x : A} → Some x ≡ None → ⊥
some_none e = cc

pub has_some : (z : List ℕ) → nat_eq (length z) 0 ≡ false → 0 < length z
has_some [] e = absurd (cc)
has_some (b ∷ z) e = omega arith

pub has_none : (z : List ℕ) → nat_eq (length z) 0 ≡ true → length z ≡ 0
has_none z e = eqb-true (length z) 0 e

-- ---- no token is empty

pub no_token_at_end : {n : ℕ} {t : Token} → Longest [] n t → ⊥
unfolding token_of_bytes
no_token_at_end {n} {t} l = go n l.token
  where
    go : (n : ℕ) → token_of_bytes (take n []) ≡ Some t → ⊥
    go zero e = cc
    go (suc n) e = cc

no_bytes_token : (z : List ℕ) (t : Token) → Longest z 0 t → ⊥
unfolding token_of_bytes
no_bytes_token z t l = some_none (sym l.token)

pub takes_some : (z : List ℕ) (n : ℕ) (t : Token) → Longest z n t → 0 < n
takes_some z zero t l = absurd (no_bytes_token z t l)
takes_some z (suc n) t l = omega arith

pub nothing_at_end : (z : List ℕ) → length z ≡ 0 → (n : ℕ) (t : Token) → Longest z n t → ⊥
nothing_at_end [] e n t found = no_token_at_end found
nothing_at_end (b ∷ z) e n t found = omega arith

-- ---- words

longest_word : (b : ℕ) (z : List ℕ) (n : ℕ) → is_letter b ≡ true → LongestSpelling is_prefixed (b ∷ z) n → n ≤ suc (prefix_len is_word_byte z)
    → Longest (b ∷ z) (suc (prefix_len is_word_byte z)) (word (b ∷ take (prefix_len is_word_byte z) z))
unfolding token_of_bytes
longest_word b z n letter r h = record {
  within = omega (arith, prefix_len-le-length is_word_byte z);
  token = rw (letter, all_front is_word_byte z);
  longest = longer;
}
  where
    longer : (k : ℕ) → suc (prefix_len is_word_byte z) < k → k ≤ length (b ∷ z) → token_of_bytes (take k (b ∷ z)) ≡ None
    longer zero i w = refl
    longer (suc k) i w = rw (letter, all_longer is_word_byte z k (omega arith) (omega arith), r.none_longer (suc k) (omega arith) w)

pub word_at : (z : List ℕ) (n : ℕ) → 0 < length z → is_letter (get_or z 0 0) ≡ true → LongestSpelling is_prefixed z n → n ≤ 1 + prefix_len is_word_byte (drop 1 z)
    → Longest z (1 + prefix_len is_word_byte (drop 1 z)) (word (take (1 + prefix_len is_word_byte (drop 1 z)) z))
word_at [] n some e r h = absurd (omega arith)
word_at (b ∷ z) n some e r h = rw one-add (longest_word b z n e r (omega arith))

-- ---- strings

longest_prefixed : (b : ℕ) (z : List ℕ) (n : ℕ) → is_letter b ≡ true → LongestSpelling is_prefixed (b ∷ z) n → 1 + prefix_len is_word_byte z < n
    → Longest (b ∷ z) n (quoted (take n (b ∷ z)))
unfolding token_of_bytes
longest_prefixed b z zero letter r h = absurd (omega arith)
longest_prefixed b z (suc n) letter r h = record {
  within = r.fits;
  token = let fits = r.fits in rw (letter, all_longer is_word_byte z n (omega arith) (omega arith), r.is_one (omega arith));
  longest = longer;
}
  where
    longer : (k : ℕ) → suc n < k → k ≤ length (b ∷ z) → token_of_bytes (take k (b ∷ z)) ≡ None
    longer zero i w = refl
    longer (suc k) i w = rw (letter, all_longer is_word_byte z k (omega arith) (omega arith), r.none_longer (suc k) i w)

pub prefixed_at : (z : List ℕ) (n : ℕ) → 0 < length z → is_letter (get_or z 0 0) ≡ true → LongestSpelling is_prefixed z n → 1 + prefix_len is_word_byte (drop 1 z) < n
    → Longest z n (quoted (take n z))
prefixed_at [] n some e r h = absurd (omega arith)
prefixed_at (b ∷ z) n some e r h = longest_prefixed b z n e r h

longest_quoted : (b : ℕ) (z : List ℕ) (n : ℕ) → is_letter b ≡ false → is_quote b ≡ true → LongestSpelling (is_string false) (b ∷ z) n → 0 < n
    → Longest (b ∷ z) n (quoted (take n (b ∷ z)))
unfolding token_of_bytes
longest_quoted b z zero l q r h = absurd (omega arith)
longest_quoted b z (suc n) l q r h = record { within = r.fits; token = rw (l, q, r.is_one h); longest = longer }
  where
    longer : (k : ℕ) → suc n < k → k ≤ length (b ∷ z) → token_of_bytes (take k (b ∷ z)) ≡ None
    longer zero i w = refl
    longer (suc k) i w = rw (l, q, r.none_longer (suc k) i w)

pub quoted_at : (z : List ℕ) (n : ℕ) → 0 < length z → is_letter (get_or z 0 0) ≡ false → is_quote (get_or z 0 0) ≡ true → LongestSpelling (is_string false) z n → 0 < n
    → Longest z n (quoted (take n z))
quoted_at [] n some l q r h = absurd (omega arith)
quoted_at (b ∷ z) n some l q r h = longest_quoted b z n l q r h

never_quoted : (b : ℕ) (z : List ℕ) → is_letter b ≡ false → is_quote b ≡ true → LongestSpelling (is_string false) (b ∷ z) 0 → (n : ℕ) (t : Token) → Longest (b ∷ z) n t → ⊥
unfolding token_of_bytes
never_quoted b z l q r zero t found = some_none (sym found.token)
never_quoted b z l q r (suc n) t found = some_none (sym found.token ∙ rw (l, q, r.none_longer (suc n) (omega arith) found.within))

pub never_quoted_at : (z : List ℕ) (n : ℕ) → 0 < length z → is_letter (get_or z 0 0) ≡ false → is_quote (get_or z 0 0) ≡ true → LongestSpelling (is_string false) z n → n ≤ 0
    → (k : ℕ) (t : Token) → Longest z k t → ⊥
never_quoted_at [] n some l q r h = absurd (omega arith)
never_quoted_at (b ∷ z) n some l q r h = let none : n ≡ 0 = omega arith in never_quoted b z l q (subst (λ i. LongestSpelling (is_string false) (b ∷ z) i) none r)

-- ---- numbers

digit_is_no_punctuator : (b c : ℕ) → is_number (b ∷ []) ≡ true → two_bytes b c ≡ None
unfolding two_bytes is_number is_hexadecimal is_fraction is_decimal is_after_digits is_end_or_suffix is_exponent some_then
digit_is_no_punctuator b c is = rw (other 60 refl, other 62 refl, other 61 refl, other 33 refl, other 38 refl, other 124 refl)
  where
    other : (v : ℕ) → is_number (v ∷ []) ≡ false → nat_eq b v ≡ false
    other v none = class_is_not (λ x. is_number (x ∷ [])) v b none is

longest_number : (b : ℕ) (z : List ℕ) (n : ℕ) → is_letter b ≡ false → is_quote b ≡ false → LongestSpelling is_number (b ∷ z) n → 0 < n → Longest (b ∷ z) n (number (take n (b ∷ z)))
unfolding token_of_bytes
longest_number b z zero l q r some = absurd (omega arith)
longest_number b z (suc n) l q r some = record { within = r.fits; token = rw (l, q, r.is_one some); longest = longer z r.is_one r.none_longer }
  where
    longer : (z : List ℕ) → (0 < suc n → is_number (take (suc n) (b ∷ z)) ≡ true) → ((k : ℕ) → suc n < k → k ≤ length (b ∷ z) → is_number (take k (b ∷ z)) ≡ false)
        → (k : ℕ) → suc n < k → k ≤ length (b ∷ z) → token_of_bytes (take k (b ∷ z)) ≡ None
    longer z is none zero h w = absurd (omega arith)
    longer z is none (suc zero) h w = absurd (omega arith)
    longer [] is none (suc (suc k)) h w = absurd (omega arith)
    longer (c ∷ z) is none (suc (suc zero)) h w =
        let one : n ≡ 0 = omega arith in
        rw (l, q, none 2 h w, digit_is_no_punctuator b c (subst (λ i. is_number (take (suc i) (b ∷ c ∷ z)) ≡ true) one (is (omega arith))))
    longer (c ∷ []) is none (suc (suc (suc k))) h w = absurd (omega arith)
    longer (c ∷ x ∷ z) is none (suc (suc (suc k))) h w = rw (l, q, none (suc (suc (suc k))) h w)

pub number_at : (z : List ℕ) (n : ℕ) → 0 < length z → is_letter (get_or z 0 0) ≡ false → is_quote (get_or z 0 0) ≡ false → LongestSpelling is_number z n → 0 < n
    → Longest z n (number (take n z))
number_at [] n some l q r h = absurd (omega arith)
number_at (b ∷ z) n some l q r h = longest_number b z n l q r h

-- ---- punctuators

-- there is no number at the front
abbrev pub NoNumber : List ℕ → Type 0
NoNumber z = (k : ℕ) → 0 < k → k ≤ length z → is_number (take k z) ≡ false

module _ (b : ℕ) (l : is_letter b ≡ false) (q : is_quote b ≡ false) where
  longest_two : (c : ℕ) (z : List ℕ) (k : Punctuator) → NoNumber (b ∷ c ∷ z) → two_bytes b c ≡ Some k → Longest (b ∷ c ∷ z) 2 (punctuator k)
  unfolding token_of_bytes
  longest_two c z k none is = record { within = omega arith; token = rw (l, q, none 2 (omega arith) (omega arith), is); longest = longer z none }
    where
      longer : (z : List ℕ) → NoNumber (b ∷ c ∷ z) → (n : ℕ) → 2 < n → n ≤ length (b ∷ c ∷ z) → token_of_bytes (take n (b ∷ c ∷ z)) ≡ None
      longer z none zero h w = absurd (omega arith)
      longer z none (suc zero) h w = absurd (omega arith)
      longer z none (suc (suc zero)) h w = absurd (omega arith)
      longer [] none (suc (suc (suc n))) h w = absurd (omega arith)
      longer (x ∷ z) none (suc (suc (suc n))) h w = rw (l, q, none (suc (suc (suc n))) (omega arith) w)

  no_longer_punctuator : (z : List ℕ) (n : ℕ) → NoNumber (b ∷ z) → ((c : ℕ) (y : List ℕ) → z ≡ c ∷ y → two_bytes b c ≡ None) → 1 < n → n ≤ length (b ∷ z)
      → token_of_bytes (take n (b ∷ z)) ≡ None
  unfolding token_of_bytes
  no_longer_punctuator z zero none two h w = absurd (omega arith)
  no_longer_punctuator z (suc zero) none two h w = absurd (omega arith)
  no_longer_punctuator [] (suc (suc n)) none two h w = absurd (omega arith)
  no_longer_punctuator (c ∷ z) (suc (suc zero)) none two h w = rw (l, q, none 2 (omega arith) w, two c z refl)
  no_longer_punctuator (c ∷ []) (suc (suc (suc n))) none two h w = absurd (omega arith)
  no_longer_punctuator (c ∷ x ∷ z) (suc (suc (suc n))) none two h w = rw (l, q, none (suc (suc (suc n))) (omega arith) w)

  longest_one : (z : List ℕ) (k : Punctuator) → NoNumber (b ∷ z) → ((c : ℕ) (y : List ℕ) → z ≡ c ∷ y → two_bytes b c ≡ None) → one_byte b ≡ Some k → Longest (b ∷ z) 1 (punctuator k)
  unfolding token_of_bytes
  longest_one z k none two is = record {
    within = omega arith;
    token = rw (l, q, none 1 (omega arith) (omega arith), is);
    longest = λ n h w. no_longer_punctuator z n none two h w;
  }

  no_punctuator : (z : List ℕ) → NoNumber (b ∷ z) → ((c : ℕ) (y : List ℕ) → z ≡ c ∷ y → two_bytes b c ≡ None) → one_byte b ≡ None → (n : ℕ) (t : Token) → Longest (b ∷ z) n t → ⊥
  unfolding token_of_bytes
  no_punctuator z none two one zero t found = some_none (sym found.token)
  no_punctuator z none two one (suc zero) t found = some_none (sym found.token ∙ rw (l, q, none 1 (omega arith) (omega arith), one))
  no_punctuator z none two one (suc (suc n)) t found = some_none (sym found.token ∙ no_longer_punctuator z (suc (suc n)) none two (omega arith) found.within)

no_two : (b : ℕ) (z : List ℕ) → two_at_front (b ∷ z) ≡ None → (c : ℕ) (y : List ℕ) → z ≡ c ∷ y → two_bytes b c ≡ None
no_two b [] e c y is = absurd (cc)
no_two b (x ∷ z) e c y is = let same : x ≡ c = cc in rw (← same) e

none_of : (z : List ℕ) (n : ℕ) → LongestSpelling is_number z n → n ≤ 0 → NoNumber z
none_of z n r zero_at_most = λ k h w. r.none_longer k (omega arith) w

pub two_at : (z : List ℕ) (k : Punctuator) (n : ℕ) → is_letter (get_or z 0 0) ≡ false → is_quote (get_or z 0 0) ≡ false → LongestSpelling is_number z n → n ≤ 0
    → two_at_front z ≡ Some k → Longest z 2 (punctuator k)
two_at [] k n l q r none e = absurd (cc)
two_at (b ∷ []) k n l q r none e = absurd (cc)
two_at (b ∷ c ∷ z) k n l q r none e = longest_two b l q c z k (none_of (b ∷ c ∷ z) n r none) e

pub one_at : (z : List ℕ) (k : Punctuator) (n : ℕ) → 0 < length z → is_letter (get_or z 0 0) ≡ false → is_quote (get_or z 0 0) ≡ false → LongestSpelling is_number z n → n ≤ 0
    → two_at_front z ≡ None → one_byte (get_or z 0 0) ≡ Some k → Longest z 1 (punctuator k)
one_at [] k n some l q r none two e = absurd (omega arith)
one_at (b ∷ z) k n some l q r none two e = longest_one b l q z k (none_of (b ∷ z) n r none) (no_two b z two) e

pub none_at : (z : List ℕ) (n : ℕ) → 0 < length z → is_letter (get_or z 0 0) ≡ false → is_quote (get_or z 0 0) ≡ false → LongestSpelling is_number z n → n ≤ 0
    → two_at_front z ≡ None → one_byte (get_or z 0 0) ≡ None → (k : ℕ) (t : Token) → Longest z k t → ⊥
none_at [] n some l q r none two e = absurd (omega arith)
none_at (b ∷ z) n some l q r none two e = no_punctuator b l q z (none_of (b ∷ z) n r none) (no_two b z two) e
