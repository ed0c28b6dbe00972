-- Where a string ends, and the longest string from its parts.
use Rattle.std.proofs.Common.{◌≡◌, ℕ, suc, zero, ◌+◌, ◌<◌, ◌≤◌, refl, sym, ◌∙◌, ap, subst, arith, Bool, true, false, Option, Some, None, List, [], ◌∷◌, ◌++◌, take, drop, length, get_or, ◌&&◌, ◌||◌, add-one}
use Rattle.std.proofs.lemmas.List.{length-take-le, length-take, length-append}
use Rattle.std.proofs.Math.ListN.{drop_of_length-le}
use Rattle.std.specs.Prelude.{nat_eq, not, max, option_map}
use Rattle.std.proofs.lemmas.Bool.{eqb-true, eq-eqb}
use Rattle.std.proofs.Math.Seq.{drop-cons, take-append_seam}
use Rattle.cel_syntax_lexer.specs.declared.string_literal.Quotes.{Quotes}
use Rattle.cel_syntax_lexer.specs.Spelling.{is_byte, is_either, begins, one_then, LongestSpelling, longer}
use Rattle.cel_syntax_lexer.specs.Strings.{is_quote, quotes_stand, quotes_length, closes, breaks, hides, end_of, is_all, is_closed, is_after_two, is_after_one, single_quotes, triple_quotes, is_string, is_raw_string, is_after_b, is_bytes, is_prefixed}
use Rattle.cel_syntax_lexer.proofs.Spelling.{longest_either, longest_no_one, longest_one_and_more}

-- ---- a step of the search

module _ (q : Quotes) where
  at_close : (hidden : Bool) (b : ℕ) (z : List ℕ) → closes q hidden (b ∷ z) ≡ true → end_of q hidden (b ∷ z) ≡ Some (quotes_length q.tripled)
  unfolding end_of
  at_close hidden b z e = rw e

  at_break : (hidden : Bool) (b : ℕ) (z : List ℕ) → closes q hidden (b ∷ z) ≡ false → breaks q b ≡ true → end_of q hidden (b ∷ z) ≡ None
  unfolding end_of
  at_break hidden b z e s = rw (e, s)

  at_text : (hidden : Bool) (b : ℕ) (z : List ℕ) → closes q hidden (b ∷ z) ≡ false → breaks q b ≡ false
      → end_of q hidden (b ∷ z) ≡ option_map (λ n. 1 + n) (end_of q (hides q hidden b) z)
  unfolding end_of
  at_text hidden b z e s = rw (e, s)

  no_end : (hidden : Bool) → end_of q hidden [] ≡ None
  unfolding end_of
  no_end hidden = refl

-- ---- a prefix closes at the same place

quotes_stand_take : (t : Bool) (quote : ℕ) (z : List ℕ) (k : ℕ) → quotes_length t ≤ k → quotes_stand t quote (take k z) ≡ quotes_stand t quote z
quotes_stand_take false quote z zero h = absurd (omega arith)
quotes_stand_take false quote [] (suc k) h = refl
quotes_stand_take false quote (b ∷ z) (suc k) h = refl
quotes_stand_take true quote z zero h = absurd (omega arith)
quotes_stand_take true quote z (suc zero) h = absurd (omega arith)
quotes_stand_take true quote z (suc (suc zero)) h = absurd (omega arith)
quotes_stand_take true quote [] (suc (suc (suc k))) h = refl
quotes_stand_take true quote (b ∷ []) (suc (suc (suc k))) h = refl
quotes_stand_take true quote (b ∷ c ∷ []) (suc (suc (suc k))) h = refl
quotes_stand_take true quote (b ∷ c ∷ d ∷ z) (suc (suc (suc k))) h = refl

quotes_fit : (t : Bool) (quote : ℕ) (z : List ℕ) → quotes_stand t quote z ≡ true → quotes_length t ≤ length z
quotes_fit false quote [] e = absurd (cc)
quotes_fit false quote (b ∷ z) e = omega arith
quotes_fit true quote [] e = absurd (cc)
quotes_fit true quote (b ∷ []) e = absurd (cc)
quotes_fit true quote (b ∷ c ∷ []) e = absurd (cc)
quotes_fit true quote (b ∷ c ∷ d ∷ z) e = omega arith

quotes_some : (t : Bool) → 0 < quotes_length t
quotes_some true = omega arith
quotes_some false = omega arith

-- the string ends after n bytes
record Ends (q : Quotes) (hidden : Bool) (z : List ℕ) (n : ℕ) : Type 0 where
  pub enough : quotes_length q.tripled ≤ n
  pub fits : n ≤ length z
  pub alone : end_of q hidden (take n z) ≡ Some n

module _ (q : Quotes) where
  closes_take : (hidden : Bool) (z : List ℕ) (k : ℕ) → quotes_length q.tripled ≤ k → closes q hidden (take k z) ≡ closes q hidden z
  closes_take hidden z k h = ap (λ t. not hidden && t) (quotes_stand_take q.tripled q.byte z k h)

  closes_fit : (hidden : Bool) (z : List ℕ) → closes q hidden z ≡ true → quotes_length q.tripled ≤ length z
  closes_fit true z e = absurd (cc)
  closes_fit false z e = quotes_fit q.tripled q.byte z e

  ends : (hidden : Bool) (z : List ℕ) (n : ℕ) → end_of q hidden z ≡ Some n → Ends q hidden z n
  ends hidden [] n e = let no = no_end q hidden in absurd (cc)
  ends hidden (b ∷ z) n e = go (closes q hidden (b ∷ z)) (breaks q b) refl refl (λ m h. ends (hides q hidden b) z m h)
    where
      closed : (k : ℕ) → k ≡ quotes_length q.tripled → closes q hidden (b ∷ z) ≡ true → Ends q hidden (b ∷ z) k
      closed zero same c = absurd (omega (arith, quotes_some q.tripled))
      closed (suc k) same c = record {
        enough = omega arith;
        fits = omega (arith, closes_fit hidden (b ∷ z) c);
        alone = at_close q hidden b (take k z) (closes_take hidden (b ∷ z) (suc k) (omega arith) ∙ c) ∙ ap (λ i. Some i) (sym same);
      }

      after : (o : Option ℕ) → end_of q (hides q hidden b) z ≡ o → closes q hidden (b ∷ z) ≡ false → breaks q b ≡ false → option_map (λ i. 1 + i) o ≡ Some n
          → ((m : ℕ) → end_of q (hides q hidden b) z ≡ Some m → Ends q (hides q hidden b) z m) → Ends q hidden (b ∷ z) n
      after None is c s one again = absurd (cc)
      after (Some m) is c s one again =
          let r : Ends q (hides q hidden b) z m = again m is in
          let same : n ≡ 1 + m = cc in
          let next : n ≡ suc m = omega arith in
          subst (λ i. Ends q hidden (b ∷ z) i) (sym next) (record {
            enough = let h = r.enough in omega arith;
            fits = let h = r.fits in omega arith;
            alone =
                let enough = r.enough in
                let one_more : 1 + m ≡ suc m = omega arith in
                at_text q hidden b (take m z) (closes_take hidden (b ∷ z) (suc m) (omega arith) ∙ c) s ∙ rw r.alone (ap (λ i. Some i) one_more);
          })

      go : (t u : Bool) → closes q hidden (b ∷ z) ≡ t → breaks q b ≡ u → ((m : ℕ) → end_of q (hides q hidden b) z ≡ Some m → Ends q (hides q hidden b) z m) → Ends q hidden (b ∷ z) n
      go true u c s again =
          let here = at_close q hidden b z c in
          let same : n ≡ quotes_length q.tripled = cc in
          closed n same c
      go false true c s again = let no = at_break q hidden b z c s in absurd (cc)
      go false false c s again = after (end_of q (hides q hidden b) z) refl c s (sym (at_text q hidden b z c s) ∙ e) again

  -- more bytes don't change where the string ends
  ends_of_front : (hidden : Bool) (z : List ℕ) (k n : ℕ) → end_of q hidden (take k z) ≡ Some n → end_of q hidden z ≡ Some n
  ends_of_front hidden [] zero n e = e
  ends_of_front hidden [] (suc k) n e = e
  ends_of_front hidden (b ∷ z) zero n e = let no = no_end q hidden in absurd (cc)
  ends_of_front hidden (b ∷ z) (suc k) n e = go (closes q hidden (b ∷ z)) (breaks q b) refl refl (λ m h. ends_of_front (hides q hidden b) z k m h)
    where
      same_close : closes q hidden (b ∷ take k z) ≡ closes q hidden (b ∷ z)
      same_close =
          let r : Ends q hidden (b ∷ take k z) n = ends hidden (b ∷ take k z) n e in
          let enough = r.enough in
          let fits = r.fits in
          closes_take hidden (b ∷ z) (suc k) (omega (arith, length-take k z))

      after : (o : Option ℕ) → end_of q (hides q hidden b) (take k z) ≡ o → closes q hidden (b ∷ z) ≡ false → breaks q b ≡ false → option_map (λ i. 1 + i) o ≡ Some n
          → ((m : ℕ) → end_of q (hides q hidden b) (take k z) ≡ Some m → end_of q (hides q hidden b) z ≡ Some m) → end_of q hidden (b ∷ z) ≡ Some n
      after None is c s one again = absurd (cc)
      after (Some m) is c s one again = at_text q hidden b z c s ∙ ap (option_map (λ i. 1 + i)) (again m is) ∙ one

      go : (t u : Bool) → closes q hidden (b ∷ z) ≡ t → breaks q b ≡ u → ((m : ℕ) → end_of q (hides q hidden b) (take k z) ≡ Some m → end_of q (hides q hidden b) z ≡ Some m)
          → end_of q hidden (b ∷ z) ≡ Some n
      go true u c s again = at_close q hidden b z c ∙ sym (at_close q hidden b (take k z) (same_close ∙ c)) ∙ e
      go false true c s again = let no = at_break q hidden b (take k z) (same_close ∙ c) s in absurd (cc)
      go false false c s again =
          after (end_of q (hides q hidden b) (take k z)) refl c s (sym (at_text q hidden b (take k z) (same_close ∙ c) s) ∙ e) again

  -- ---- the longest rest of a string

  other_end_is_not_all : (z : List ℕ) (k : ℕ) → k ≤ length z → ((m : ℕ) → end_of q false z ≡ Some m → m ≡ k → ⊥) → is_closed q (take k z) ≡ false
  unfolding is_closed
  other_end_is_not_all z k w other = go (end_of q false (take k z)) refl
    where
      differs : (m : ℕ) → (m ≡ length (take k z) → ⊥) → (t : Bool) → nat_eq m (length (take k z)) ≡ t → t ≡ false
      differs m apart true e = absurd (apart (eqb-true m (length (take k z)) e))
      differs m apart false e = refl

      go : (o : Option ℕ) → end_of q false (take k z) ≡ o → is_all (take k z) o ≡ false
      go None e = refl
      go (Some m) e = differs m (λ same. other m (ends_of_front false z k m e) (same ∙ length-take-le k z w)) (nat_eq m (length (take k z))) refl

  pub longest_closed : (z : List ℕ) (n : ℕ) → end_of q false z ≡ Some n → LongestSpelling (is_closed q) z n
  unfolding is_closed
  longest_closed z n e =
      let r : Ends q false z n = ends false z n e in
      record {
        fits = r.fits;
        is_one = λ h. rw r.alone (eq-eqb n (length (take n z)) (sym (length-take-le n z r.fits)));
        none_longer = λ k h w. other_end_is_not_all z k w (λ m is same. let equal : n ≡ m = cc in omega arith);
      }

  pub no_closed : (z : List ℕ) → end_of q false z ≡ None → LongestSpelling (is_closed q) z 0
  no_closed z e = record {
    fits = omega arith;
    is_one = λ h. absurd (omega arith);
    none_longer = λ k h w. other_end_is_not_all z k w (λ m is same. cc);
  }

  nothing_is_not_closed : is_closed q [] ≡ false
  unfolding is_closed end_of
  nothing_is_not_closed = refl

  pub longest_after_two : (z : List ℕ) (n : ℕ) → begins (is_byte q.byte) z ≡ true → LongestSpelling (is_closed q) (drop 1 z) n → LongestSpelling (is_after_two q) z (longer n)
  longest_after_two z n e r = longest_one_and_more (is_byte q.byte) (is_closed q) z n e nothing_is_not_closed r

  pub no_after_two : (z : List ℕ) → begins (is_byte q.byte) z ≡ false → LongestSpelling (is_after_two q) z 0
  no_after_two z e = longest_no_one (is_byte q.byte) (is_closed q) z e

  pub longest_after_one : (z : List ℕ) (n : ℕ) → begins (is_byte q.byte) z ≡ true → LongestSpelling (is_after_two q) (drop 1 z) n → LongestSpelling (is_after_one q) z (longer n)
  longest_after_one z n e r = longest_one_and_more (is_byte q.byte) (is_after_two q) z n e refl r

  pub no_after_one : (z : List ℕ) → begins (is_byte q.byte) z ≡ false → LongestSpelling (is_after_one q) z 0
  no_after_one z e = longest_no_one (is_byte q.byte) (is_after_two q) z e

-- ---- whole strings

module _ (raw : Bool) where
  longest_quoted : (b : ℕ) (z : List ℕ) (n : ℕ) → LongestSpelling (one_then is_quote (λ y. is_closed (single_quotes raw b) y || is_after_one (triple_quotes raw b) y)) (b ∷ z) n
      → LongestSpelling (is_string raw) (b ∷ z) n
  unfolding is_string
  longest_quoted b z n r = record { fits = r.fits; is_one = λ h. is n r.is_one h; none_longer = λ k h w. none k h w }
    where
      is : (n : ℕ) → (0 < n → one_then is_quote (λ y. is_closed (single_quotes raw b) y || is_after_one (triple_quotes raw b) y) (take n (b ∷ z)) ≡ true) → 0 < n → is_string raw (take n (b ∷ z)) ≡ true
      is zero e h = absurd (omega arith)
      is (suc n) e h = e h

      none : (k : ℕ) → n < k → k ≤ length (b ∷ z) → is_string raw (take k (b ∷ z)) ≡ false
      none zero h w = absurd (omega arith)
      none (suc k) h w = r.none_longer (suc k) h w

  pub longest_string : (z : List ℕ) (m n : ℕ) → 0 < length z → is_quote (get_or z 0 0) ≡ true → LongestSpelling (is_closed (single_quotes raw (get_or z 0 0))) (drop 1 z) m
      → LongestSpelling (is_after_one (triple_quotes raw (get_or z 0 0))) (drop 1 z) n → LongestSpelling (is_string raw) z (longer (max m n))
  longest_string [] m n some e a b = absurd (omega arith)
  longest_string (b ∷ z) m n some e one three =
      longest_quoted b z (longer (max m n))
      (longest_one_and_more is_quote (λ y. is_closed (single_quotes raw b) y || is_after_one (triple_quotes raw b) y) (b ∷ z) (max m n) e
      (rw (nothing_is_not_closed (single_quotes raw b))) (longest_either (is_closed (single_quotes raw b)) (is_after_one (triple_quotes raw b)) z m n one three))

  pub no_string_at_end : {z : List ℕ} → length z ≡ 0 → LongestSpelling (is_string raw) z 0
  no_string_at_end e = record { fits = omega arith; is_one = λ h. absurd (omega arith); none_longer = λ k h w. absurd (omega arith) }

  pub no_string : (z : List ℕ) → is_quote (get_or z 0 0) ≡ false → LongestSpelling (is_string raw) z 0
  no_string [] e = no_string_at_end refl
  no_string (b ∷ z) e = longest_quoted b z 0 (longest_no_one is_quote (λ y. is_closed (single_quotes raw b) y || is_after_one (triple_quotes raw b) y) (b ∷ z) e)

pub longest_raw_string : (z : List ℕ) (n : ℕ) → begins (is_either 114 82) z ≡ true → LongestSpelling (is_string true) (drop 1 z) n → LongestSpelling is_raw_string z (longer n)
unfolding is_raw_string is_string
longest_raw_string z n e r = longest_one_and_more (is_either 114 82) (is_string true) z n e refl r

pub no_raw_string : (z : List ℕ) → begins (is_either 114 82) z ≡ false → LongestSpelling is_raw_string z 0
unfolding is_raw_string
no_raw_string z e = longest_no_one (is_either 114 82) (is_string true) z e

pub longest_after_b : (z : List ℕ) (m n : ℕ) → LongestSpelling (is_string false) z m → LongestSpelling is_raw_string z n → LongestSpelling is_after_b z (max m n)
longest_after_b z m n a b = longest_either (is_string false) is_raw_string z m n a b

pub longest_bytes : (z : List ℕ) (n : ℕ) → begins (is_either 98 66) z ≡ true → LongestSpelling is_after_b (drop 1 z) n → LongestSpelling is_bytes z (longer n)
unfolding is_bytes is_string is_raw_string
longest_bytes z n e r = longest_one_and_more (is_either 98 66) is_after_b z n e refl r

pub no_bytes : (z : List ℕ) → begins (is_either 98 66) z ≡ false → LongestSpelling is_bytes z 0
unfolding is_bytes
no_bytes z e = longest_no_one (is_either 98 66) is_after_b z e

pub longest_prefixed : (z : List ℕ) (m n : ℕ) → LongestSpelling is_raw_string z m → LongestSpelling is_bytes z n → LongestSpelling is_prefixed z (max m n)
unfolding is_prefixed
longest_prefixed z m n a b = longest_either is_raw_string is_bytes z m n a b

-- ---- a string closes once

all_is_end : (q : Quotes) (z : List ℕ) → is_closed q z ≡ true → end_of q false z ≡ Some (length z)
unfolding is_closed
all_is_end q z e = go (end_of q false z) refl e
  where
    go : (o : Option ℕ) → end_of q false z ≡ o → is_all z o ≡ true → end_of q false z ≡ Some (length z)
    go None is e = absurd (cc)
    go (Some n) is e = is ∙ ap (λ i. Some i) (eqb-true n (length z) e)

pub closes_once : (q : Quotes) (y z : List ℕ) → is_closed q y ≡ true → is_closed q (y ++ z) ≡ true → z ≡ []
closes_once q y z first second =
    let front : end_of q false (y ++ z) ≡ Some (length y) =
    ends_of_front q false (y ++ z) (length y) (length y) (ap (λ x. end_of q false x) (take-append_seam y z) ∙ all_is_end q y first) in
    let whole : end_of q false (y ++ z) ≡ Some (length (y ++ z)) = all_is_end q (y ++ z) second in
    let same : length y ≡ length (y ++ z) = cc in
    nothing z (omega (arith, length-append y z))
  where
    nothing : (z : List ℕ) → length z ≡ 0 → z ≡ []
    nothing [] e = refl
    nothing (b ∷ z) e = absurd (omega arith)

-- ---- the search

pub search_starts : (q : Quotes) (z : List ℕ) → end_of q false z ≡ option_map (λ n. 0 + n) (end_of q false (drop 0 z))
search_starts q z = go (end_of q false z)
  where
    go : (o : Option ℕ) → o ≡ option_map (λ n. 0 + n) o
    go None = refl
    go (Some n) = let same : n ≡ 0 + n = omega arith in ap (λ i. Some i) same

pub search_goes_on : (q : Quotes) (hidden : Bool) (z : List ℕ) (i : ℕ) → i < length z → closes q hidden (drop i z) ≡ false → breaks q (get_or z i 0) ≡ false
    → option_map (λ n. i + n) (end_of q hidden (drop i z)) ≡ option_map (λ n. i + 1 + n) (end_of q (hides q hidden (get_or z i 0)) (drop (i + 1) z))
search_goes_on q hidden z i h c s =
    let front : drop i z ≡ get_or z i 0 ∷ drop (suc i) z = drop-cons z i 0 h in
    ap (λ y. option_map (λ n. i + n) (end_of q hidden y)) front
    ∙ ap (option_map (λ n. i + n)) (at_text q hidden (get_or z i 0) (drop (suc i) z) (rw front at c) s)
    ∙ rw add-one (go (end_of q (hides q hidden (get_or z i 0)) (drop (suc i) z)))
  where
    go : (o : Option ℕ) → option_map (λ n. i + n) (option_map (λ n. 1 + n) o) ≡ option_map (λ n. suc i + n) o
    go None = refl
    go (Some n) = let same : i + (1 + n) ≡ suc i + n = omega arith in ap (λ j. Some j) same

pub search_closes : (q : Quotes) (hidden : Bool) (z : List ℕ) (i : ℕ) → i < length z → closes q hidden (drop i z) ≡ true
    → option_map (λ n. i + n) (end_of q hidden (drop i z)) ≡ Some (i + quotes_length q.tripled)
search_closes q hidden z i h c =
    let front : drop i z ≡ get_or z i 0 ∷ drop (suc i) z = drop-cons z i 0 h in
    ap (λ y. option_map (λ n. i + n) (end_of q hidden y)) front ∙ ap (option_map (λ n. i + n)) (at_close q hidden (get_or z i 0) (drop (suc i) z) (rw front at c))

pub search_breaks : (q : Quotes) (hidden : Bool) (z : List ℕ) (i : ℕ) → i < length z → closes q hidden (drop i z) ≡ false → breaks q (get_or z i 0) ≡ true
    → option_map (λ n. i + n) (end_of q hidden (drop i z)) ≡ None
search_breaks q hidden z i h c s =
    let front : drop i z ≡ get_or z i 0 ∷ drop (suc i) z = drop-cons z i 0 h in
    ap (λ y. option_map (λ n. i + n) (end_of q hidden y)) front ∙ ap (option_map (λ n. i + n)) (at_break q hidden (get_or z i 0) (drop (suc i) z) (rw front at c) s)

pub search_ends : (q : Quotes) (hidden : Bool) (z : List ℕ) (i : ℕ) → length z ≤ i → option_map (λ n. i + n) (end_of q hidden (drop i z)) ≡ None
search_ends q hidden z i h = ap (λ y. option_map (λ n. i + n) (end_of q hidden y)) (drop_of_length-le z h) ∙ ap (option_map (λ n. i + n)) (no_end q hidden)
