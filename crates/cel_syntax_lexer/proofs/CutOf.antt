-- The function `tokens_of_text` agrees with the relation `Cuts`.
use Rattle.std.proofs.Common.{◌≡◌, ℕ, suc, zero, ◌<◌, ◌≤◌, refl, sym, ◌∙◌, ap, arith, Bool, true, false, Option, Some, None, List, [], ◌∷◌, take, drop, length, ◌⊎◌, inl, inr, length-drop}
use Rattle.std.specs.Prelude.{nat_eq, ◌&&◌, MatchOption, option_map}
use Rattle.std.specs.List.{prefix_len}
use Rattle.std.proofs.lemmas.Bool.{eqb-true}
use Rattle.cel_syntax_lexer.specs.Token.{Token}
use Rattle.cel_syntax_lexer.specs.Tokens.{is_white_space, is_in_line, token_of_bytes, Longest, begins_comment, Cuts, done, space, comment, token, CutsInto, CutsIntoNone}
use Rattle.cel_syntax_lexer.specs.Cut.{this_or, token_within, longest_token, from_first, cut_within, tokens_of_text}
use Rattle.cel_syntax_lexer.proofs.First.{some_none, no_token_at_end, takes_some}
use Rattle.cel_syntax_lexer.proofs.Cut.{no_space_token, space_is_no_comment, only_one, cuts_once}

-- ---- the longest token

no_empty_token : (z : List ℕ) → token_of_bytes (take 0 z) ≡ None
unfolding token_of_bytes
no_empty_token z = refl

-- the longest token of at most n bytes has k bytes
record Within (n : ℕ) (z : List ℕ) (k : ℕ) (t : Token) : Type 0 where
  pub fits : k ≤ n
  pub is_token : token_of_bytes (take k z) ≡ Some t
  pub none_longer : (j : ℕ) → k < j → j ≤ n → token_of_bytes (take j z) ≡ None

last_or_below : (j n : ℕ) → j ≤ suc n → (j ≡ suc n) ⊎ (j ≤ n)
last_or_below zero n h = inr (omega arith)
last_or_below (suc j) zero h = inl (omega arith)
last_or_below (suc j) (suc n) h = elim (last_or_below j n (omega arith)) [ inl last ↦ inl (ap suc last) | inr below ↦ inr (omega arith) ]

is_within : (n : ℕ) (z : List ℕ) (k : ℕ) (t : Token) → token_within n z ≡ Some (t, k) → Within n z k t
unfolding token_within
is_within zero z k t e = absurd (cc)
is_within (suc n) z k t e = go (token_of_bytes (take (suc n) z)) refl (λ h. is_within n z k t h) e
  where
    go : (o : Option Token) → token_of_bytes (take (suc n) z) ≡ o → (token_within n z ≡ Some (t, k) → Within n z k t)
        → this_or o (suc n) (token_within n z) ≡ Some (t, k) → Within (suc n) z k t
    go (Some u) is below e =
        let pair : ◌≡◌ {A = Token × ℕ} (u, suc n) (t, k) = cc in
        let same : suc n ≡ k = ap (λ (p : Token × ℕ). p.1) pair in
        let also : u ≡ t = ap (λ (p : Token × ℕ). p.0) pair in
        record { fits = omega arith; is_token = rw (← same, ← also) is; none_longer = λ j h w. absurd (omega arith) }
    go None is below e =
        let r : Within n z k t = below e in
        record {
          fits = let f = r.fits in omega arith;
          is_token = r.is_token;
          none_longer = λ j h w. elim (last_or_below j n w) [ inl last ↦ rw last is | inr small ↦ r.none_longer j h small ];
        }

none_within : (n : ℕ) (z : List ℕ) → token_within n z ≡ None → (j : ℕ) → j ≤ n → token_of_bytes (take j z) ≡ None
unfolding token_within
none_within zero z e j h = let end : j ≡ 0 = omega arith in rw end (no_empty_token z)
none_within (suc n) z e j h = go (token_of_bytes (take (suc n) z)) refl (λ i. none_within n z i) e
  where
    go : (o : Option Token) → token_of_bytes (take (suc n) z) ≡ o → (token_within n z ≡ None → (i : ℕ) → i ≤ n → token_of_bytes (take i z) ≡ None)
        → this_or o (suc n) (token_within n z) ≡ None → token_of_bytes (take j z) ≡ None
    go (Some u) is below e = absurd (cc)
    go None is below e = elim (last_or_below j n h) [ inl last ↦ rw last is | inr small ↦ below e j small ]

pub longest_of_token : (z : List ℕ) (n : ℕ) (t : Token) → longest_token z ≡ Some (t, n) → Longest z n t
longest_of_token z n t e = let r = is_within (length z) z n t e in record { within = r.fits; token = r.is_token; longest = r.none_longer }

pub token_of_longest : (z : List ℕ) (n : ℕ) (t : Token) → Longest z n t → longest_token z ≡ Some (t, n)
token_of_longest z n t l = go (longest_token z) refl
  where
    go : (o : Option (Token × ℕ)) → longest_token z ≡ o → longest_token z ≡ Some (t, n)
    go None e = absurd (some_none (sym l.token ∙ none_within (length z) z e n l.within))
    go (Some (u, k)) e =
        let other = longest_of_token z k u e in
        let same : k ≡ n = only_one other l in
        let bytes : ◌≡◌ {A = Option Token} (Some u) (Some t) = sym other.token ∙ ap (λ i. token_of_bytes (take i z)) same ∙ l.token in
        let also : u ≡ t = cc in
        rw (← same, ← also) e

-- ---- the function gives what the relation says

first_is : (n b : ℕ) (z : List ℕ) (c s : Bool) (o : Option (Token × ℕ)) → begins_comment (b ∷ z) ≡ c → is_white_space b ≡ s → longest_token (b ∷ z) ≡ o
    → cut_within (suc n) (b ∷ z) ≡ from_first (λ y. cut_within n y) (b ∷ z) c s o
unfolding cut_within
first_is n b z c s o ec es eo =
    ap (λ (x : Bool). from_first (λ y. cut_within n y) (b ∷ z) x (is_white_space b) (longest_token (b ∷ z))) ec
    ∙ ap (λ (x : Bool). from_first (λ y. cut_within n y) (b ∷ z) c x (longest_token (b ∷ z))) es
    ∙ ap (λ (x : Option (Token × ℕ)). from_first (λ y. cut_within n y) (b ∷ z) c s x) eo

one_step : (b : ℕ) (z : List ℕ) (ts : List Token) (n : ℕ) → ((y : List ℕ) (us : List Token) → cut_within n y ≡ Some us → Cuts y us)
    → cut_within (suc n) (b ∷ z) ≡ Some ts → Cuts (b ∷ z) ts
one_step b z ts n next e = comment_or (begins_comment (b ∷ z)) refl
  where
    found : (t : Token) (k : ℕ) (o : Option (List Token)) → begins_comment (b ∷ z) ≡ false → longest_token (b ∷ z) ≡ Some (t, k) → cut_within n (drop k (b ∷ z)) ≡ o
        → option_map (λ (us : List Token). t ∷ us) o ≡ Some ts → Cuts (b ∷ z) ts
    found t k None nc is rest e = absurd (cc)
    found t k (Some us) nc is rest e =
        let same : ts ≡ t ∷ us = cc in
        rw same (token nc (longest_of_token (b ∷ z) k t is) (next (drop k (b ∷ z)) us rest))

    token_or : (o : Option (Token × ℕ)) → begins_comment (b ∷ z) ≡ false → is_white_space b ≡ false → longest_token (b ∷ z) ≡ o → Cuts (b ∷ z) ts
    token_or None nc s is = absurd (some_none (sym e ∙ first_is n b z false false None nc s is))
    token_or (Some (t, k)) nc s is = found t k (cut_within n (drop k (b ∷ z))) nc is refl (sym (first_is n b z false false (Some (t, k)) nc s is) ∙ e)

    space_or : (s : Bool) → begins_comment (b ∷ z) ≡ false → is_white_space b ≡ s → Cuts (b ∷ z) ts
    space_or true nc is = space is (next z ts (sym (first_is n b z false true (longest_token (b ∷ z)) nc is refl) ∙ e))
    space_or false nc is = token_or (longest_token (b ∷ z)) nc is refl

    comment_or : (c : Bool) → begins_comment (b ∷ z) ≡ c → Cuts (b ∷ z) ts
    comment_or true is = comment is (next (drop (prefix_len is_in_line (b ∷ z)) (b ∷ z)) ts (sym (first_is n b z true (is_white_space b) (longest_token (b ∷ z)) is refl refl) ∙ e))
    comment_or false is = space_or (is_white_space b) is refl

cuts_of_within : (n : ℕ) (z : List ℕ) (ts : List Token) → cut_within n z ≡ Some ts → Cuts z ts
unfolding cut_within
cuts_of_within zero [] ts e = let same : ts ≡ [] = cc in rw same done
cuts_of_within zero (b ∷ z) ts e = absurd (cc)
cuts_of_within (suc n) [] ts e = let same : ts ≡ [] = cc in rw same done
cuts_of_within (suc n) (b ∷ z) ts e = one_step b z ts n (λ y us d. cuts_of_within n y us d) e

comment_takes_some : (b : ℕ) (z : List ℕ) → begins_comment (b ∷ z) ≡ true → 0 < prefix_len is_in_line (b ∷ z)
comment_takes_some b [] e = absurd (cc)
comment_takes_some b (c ∷ z) e = go (nat_eq b 47) refl e
  where
    go : (s : Bool) → nat_eq b 47 ≡ s → (s && nat_eq c 47) ≡ true → 0 < prefix_len is_in_line (b ∷ c ∷ z)
    go false is e = absurd (cc)
    go true is e = let slash : b ≡ 47 = eqb-true b 47 is in rw slash (omega arith)

comment_shortens : (b : ℕ) (z : List ℕ) → begins_comment (b ∷ z) ≡ true → length (drop (prefix_len is_in_line (b ∷ z)) (b ∷ z)) ≤ length z
comment_shortens b z e = let some = comment_takes_some b z e in omega (arith, length-drop (prefix_len is_in_line (b ∷ z)) (b ∷ z))

at_end : (n : ℕ) → cut_within n [] ≡ Some []
unfolding cut_within
at_end zero = refl
at_end (suc n) = refl

at_space : (b : ℕ) (z : List ℕ) (ts : List Token) (n : ℕ) → is_white_space b ≡ true → length (b ∷ z) ≤ n
    → ((m : ℕ) → length z ≤ m → cut_within m z ≡ Some ts) → cut_within n (b ∷ z) ≡ Some ts
unfolding cut_within
at_space b z ts zero s h next = absurd (omega arith)
at_space b z ts (suc n) s h next = first_is n b z false true (longest_token (b ∷ z)) (space_is_no_comment b z s) s refl ∙ next n (omega arith)

at_comment : (z : List ℕ) (ts : List Token) (n : ℕ) → begins_comment z ≡ true → length z ≤ n
    → ((m : ℕ) → length (drop (prefix_len is_in_line z) z) ≤ m → cut_within m (drop (prefix_len is_in_line z) z) ≡ Some ts) → cut_within n z ≡ Some ts
unfolding cut_within
at_comment [] ts n c h next = absurd (cc)
at_comment (b ∷ z) ts zero c h next = absurd (omega arith)
at_comment (b ∷ z) ts (suc n) c h next = let shorter = comment_shortens b z c in first_is n b z true (is_white_space b) (longest_token (b ∷ z)) c refl refl ∙ next n (omega arith)

at_token : (z : List ℕ) (k : ℕ) (t : Token) (ts : List Token) (n : ℕ) → begins_comment z ≡ false → Longest z k t → length z ≤ n
    → ((m : ℕ) → length (drop k z) ≤ m → cut_within m (drop k z) ≡ Some ts) → cut_within n z ≡ Some (t ∷ ts)
unfolding cut_within
at_token [] k t ts n nc l h next = absurd (no_token_at_end l)
at_token (b ∷ z) k t ts zero nc l h next = absurd (omega arith)
at_token (b ∷ z) k t ts (suc n) nc l h next = go (is_white_space b) refl
  where
    shorter : length (drop k (b ∷ z)) ≤ n
    shorter = let some = takes_some (b ∷ z) k t l in omega (arith, length-drop k (b ∷ z))

    go : (s : Bool) → is_white_space b ≡ s → cut_within (suc n) (b ∷ z) ≡ Some (t ∷ ts)
    go true s = absurd (no_space_token s l)
    go false s = first_is n b z false false (Some (t, k)) nc s (token_of_longest (b ∷ z) k t l) ∙ ap (option_map (λ (us : List Token). t ∷ us)) (next n shorter)

within_of_cuts : {z : List ℕ} {ts : List Token} → Cuts z ts → (n : ℕ) → length z ≤ n → cut_within n z ≡ Some ts
within_of_cuts done n h = at_end n
within_of_cuts (space {b = b} {z = z} {ts = ts} s d) n h = at_space b z ts n s h (within_of_cuts d)
within_of_cuts (comment {z = z} {ts = ts} c d) n h = at_comment z ts n c h (within_of_cuts d)
within_of_cuts (token {z = z} {n = k} {t = t} {ts = ts} nc l d) n h = at_token z k t ts n nc l h (within_of_cuts d)

pub cuts_of_cut : (z : List ℕ) (ts : List Token) → tokens_of_text z ≡ Some ts → Cuts z ts
unfolding tokens_of_text
cuts_of_cut z ts e = cuts_of_within (length z) z ts e

pub cut_of_cuts : (z : List ℕ) (ts : List Token) → Cuts z ts → tokens_of_text z ≡ Some ts
unfolding tokens_of_text
cut_of_cuts z ts d = within_of_cuts d (length z) (omega arith)

pub no_cuts_of_cut : (z : List ℕ) → tokens_of_text z ≡ None → CutsIntoNone z
no_cuts_of_cut z e = λ us d. some_none (sym (cut_of_cuts z us d) ∙ e)

pub cut_is : (z : List ℕ) → MatchOption (tokens_of_text z) (CutsIntoNone z) (λ ts. CutsInto z ts)
cut_is z = go (tokens_of_text z) refl
  where
    go : (o : Option (List Token)) → tokens_of_text z ≡ o → MatchOption o (CutsIntoNone z) (λ ts. CutsInto z ts)
    go None e = no_cuts_of_cut z e
    go (Some ts) e = let d = cuts_of_cut z ts e in (d, λ us other. cuts_once other d)

-- an answer that says what the text splits into is `tokens_of_text`
pub answer_is_cut : (z : List ℕ) (o : Option (List Token)) → MatchOption o (CutsIntoNone z) (λ ts. CutsInto z ts) → o ≡ tokens_of_text z
answer_is_cut z None m = go (tokens_of_text z) refl
  where
    go : (o : Option (List Token)) → tokens_of_text z ≡ o → None ≡ tokens_of_text z
    go None e = sym e
    go (Some ts) e = absurd (m ts (cuts_of_cut z ts e))
answer_is_cut z (Some ts) m = sym (cut_of_cuts z ts m.0)

-- the same for an answer whose value stands for the tokens
pub mapped_answer_is_cut : {A : Type 0} (f : A → List Token) (z : List ℕ) (o : Option A) → MatchOption o (CutsIntoNone z) (λ found. CutsInto z (f found)) → option_map f o ≡ tokens_of_text z
mapped_answer_is_cut f z None m = answer_is_cut z None m
mapped_answer_is_cut f z (Some found) m = answer_is_cut z (Some (f found)) m
