-- A text splits into tokens in one way, and how far the scan has come.
use Rattle.std.proofs.Common.{◌≡◌, ℕ, suc, zero, ◌<◌, refl, sym, ◌∙◌, ap, subst, arith, Bool, true, false, Option, Some, None, List, [], ◌∷◌, ◌++◌, take, drop, length, get_or, ◌&&◌, ◌||◌, ◌⊎◌, inl, inr, append_assoc, append-nil, map}
use Rattle.std.specs.Prelude.{nat_eq}
use Rattle.std.specs.List.{prefix_len}
use Rattle.std.proofs.lemmas.Bool.{eqb-true}
use Rattle.cel_syntax_lexer.specs.Token.{Token}
use Rattle.cel_syntax_lexer.specs.Spelling.{some_then}
use Rattle.cel_syntax_lexer.specs.Numbers.{is_hexadecimal, is_fraction, is_decimal, is_number}
use Rattle.cel_syntax_lexer.specs.Strings.{is_quote}
use Rattle.cel_syntax_lexer.specs.Tokens.{is_letter, is_white_space, is_in_line, one_byte, two_bytes, punctuator_of, token_of_bytes, Longest, begins_comment, Cuts, done, space, comment, token, CutsInto, CutsIntoNone}
use Rattle.cel_syntax_lexer.proofs.First.{some_none, no_token_at_end}

either : (a b : Bool) → (a || b) ≡ true → (a ≡ true) ⊎ (b ≡ true)
either true b e = inl refl
either false b e = inr e

-- ---- white space and comments are no tokens

no_punctuator : (b : ℕ) (z : List ℕ) → one_byte b ≡ None → ((c : ℕ) → two_bytes b c ≡ None) → punctuator_of b z ≡ None
no_punctuator b [] one two = one
no_punctuator b (c ∷ []) one two = two c
no_punctuator b (c ∷ d ∷ z) one two = refl

no_token_from : (b : ℕ) (z : List ℕ) (n : ℕ) → is_letter b ≡ false → is_quote b ≡ false → ((y : List ℕ) → is_number (b ∷ y) ≡ false) → one_byte b ≡ None
    → ((c : ℕ) → two_bytes b c ≡ None) → token_of_bytes (take n (b ∷ z)) ≡ None
unfolding token_of_bytes
no_token_from b z zero l q number one two = refl
no_token_from b z (suc n) l q number one two = rw (l, q, number (take n z), no_punctuator b (take n z) one two)

pub no_space_token : {b n : ℕ} {z : List ℕ} {t : Token} → is_white_space b ≡ true → Longest (b ∷ z) n t → ⊥
unfolding token_of_bytes one_byte two_bytes is_number is_hexadecimal is_fraction is_decimal some_then
no_space_token {b} {n} {z} {t} s l = some_none (sym l.token ∙ elim (either _ _ s) [
  | inr e ↦ by 32 e (no_token_from 32 z n refl refl (λ y. refl) refl (λ c. refl))
  | inl s ↦ elim (either _ _ s) [
    | inr e ↦ by 13 e (no_token_from 13 z n refl refl (λ y. refl) refl (λ c. refl))
    | inl s ↦ elim (either _ _ s) [
      | inr e ↦ by 12 e (no_token_from 12 z n refl refl (λ y. refl) refl (λ c. refl))
      | inl s ↦ elim (either _ _ s) [
        | inr e ↦ by 10 e (no_token_from 10 z n refl refl (λ y. refl) refl (λ c. refl))
        | inl e ↦ by 9 e (no_token_from 9 z n refl refl (λ y. refl) refl (λ c. refl))
      ]
    ]
  ]
])
  where
    by : (v : ℕ) → nat_eq b v ≡ true → token_of_bytes (take n (v ∷ z)) ≡ None → token_of_bytes (take n (b ∷ z)) ≡ None
    by v e h = let same : b ≡ v = eqb-true b v e in rw same h

pub space_is_no_comment : (b : ℕ) (z : List ℕ) → is_white_space b ≡ true → begins_comment (b ∷ z) ≡ false
space_is_no_comment b [] h = refl
space_is_no_comment b (c ∷ z) h = go (nat_eq b 47) refl
  where
    go : (t : Bool) → nat_eq b 47 ≡ t → (nat_eq b 47 && nat_eq c 47) ≡ false
    go true e = let no : is_white_space 47 ≡ true = subst (λ x. is_white_space x ≡ true) (eqb-true b 47 e) h in absurd (cc)
    go false e = rw e

-- ---- a text splits in one way

pub only_one : {z : List ℕ} {n k : ℕ} {t u : Token} → Longest z n t → Longest z k u → n ≡ k
only_one {z} {n} {k} {t} {u} a b =
    let before : n < k → ⊥ = λ h. some_none (sym b.token ∙ a.longest k h b.within) in
    let after : k < n → ⊥ = λ h. some_none (sym a.token ∙ b.longest n h a.within) in
    omega arith

cuts_end : {ts : List Token} → Cuts [] ts → ts ≡ []
cuts_end done = refl
cuts_end (comment h d) = absurd (cc)
cuts_end (token h l d) = absurd (no_token_at_end l)

space_cut : {b : ℕ} {z : List ℕ} {us : List Token} → is_white_space b ≡ true → Cuts (b ∷ z) us → Cuts z us
space_cut s (space h d) = d
space_cut {b} {z} s (comment h d) = let no = space_is_no_comment b z s in absurd (cc)
space_cut s (token h l d) = absurd (no_space_token s l)

comment_cut : {z : List ℕ} {us : List Token} → begins_comment z ≡ true → Cuts z us → Cuts (drop (prefix_len is_in_line z) z) us
comment_cut c done = absurd (cc)
comment_cut c (space {b = b} {z = z} h d) = let no = space_is_no_comment b z h in absurd (cc)
comment_cut c (comment h d) = d
comment_cut c (token h l d) = absurd (cc)

token_cut : {z : List ℕ} {n : ℕ} {t : Token} {us : List Token} → begins_comment z ≡ false → Longest z n t → Cuts z us
    → (vs : List Token) × (us ≡ t ∷ vs) × Cuts (drop n z) vs
token_cut nc l done = absurd (no_token_at_end l)
token_cut nc l (space s d) = absurd (no_space_token s l)
token_cut nc l (comment h d) = absurd (cc)
token_cut {z} {n} {t} nc l (token {n = k} {t = u} {ts = ts} h other d) =
    let same = only_one l other in
    let bytes : ◌≡◌ {A = Option Token} (Some t) (Some u) = sym l.token ∙ ap (λ i. token_of_bytes (take i z)) same ∙ other.token in
    let e : t ≡ u = cc in
    (ts, ap (λ x. x ∷ ts) (sym e), rw same d)

pub cuts_once : {z : List ℕ} {ts us : List Token} → Cuts z ts → Cuts z us → ts ≡ us
cuts_once done e = sym (cuts_end e)
cuts_once (space s d) e = cuts_once d (space_cut s e)
cuts_once (comment c d) e = cuts_once d (comment_cut c e)
cuts_once (token {t = t} nc l d) e = let r = token_cut nc l e in ap (λ x. t ∷ x) (cuts_once d r.2) ∙ sym r.1

-- ---- the scan

-- These tokens were found so far, and this is the rest of the text.
pub record Goes (whole : List ℕ) (found : List Token) (left : List ℕ) : Type 0 where
  pub forth : (us : List Token) → Cuts left us → Cuts whole (found ++ us)
  pub back : (us : List Token) → Cuts whole us → (vs : List Token) × (us ≡ found ++ vs) × Cuts left vs

pub goes_start : (z : List ℕ) → Goes z [] z
goes_start z = record { forth = λ us d. d; back = λ us d. (us, refl, d) }

goes_skip : (whole : List ℕ) (found : List Token) (left next : List ℕ) → Goes whole found left → ((us : List Token) → Cuts next us → Cuts left us)
    → ((us : List Token) → Cuts left us → Cuts next us) → Goes whole found next
goes_skip whole found left next g f b = record { forth = λ us d. g.forth us (f us d); back = λ us d. let r = g.back us d in (r.0, r.1, b r.0 r.2) }

pub goes_comment : (whole : List ℕ) (found : List Token) (left : List ℕ) → Goes whole found left → begins_comment left ≡ true
    → Goes whole found (drop (prefix_len is_in_line left) left)
goes_comment whole found left g c = goes_skip whole found left _ g (λ us d. comment c d) (λ us d. comment_cut c d)

pub goes_space : (whole : List ℕ) (found : List Token) (left : List ℕ) → Goes whole found left → 0 < length left → is_white_space (get_or left 0 0) ≡ true
    → Goes whole found (drop 1 left)
goes_space whole found [] g some s = absurd (omega arith)
goes_space whole found (b ∷ z) g some s = goes_skip whole found (b ∷ z) z g (λ us d. space s d) (λ us d. space_cut s d)

pub goes_token : (whole : List ℕ) (found : List Token) (left : List ℕ) (n : ℕ) (t : Token) → Goes whole found left → begins_comment left ≡ false → Longest left n t
    → Goes whole (found ++ t ∷ []) (drop n left)
goes_token whole found left n t g nc l = record {
  forth = λ us d. rw append_assoc (g.forth (t ∷ us) (token nc l d));
  back = λ us d.
      let r = g.back us d in
      let s = token_cut nc l r.2 in
      (s.0, r.1 ∙ ap (λ x. found ++ x) s.1 ∙ sym (append_assoc found (t ∷ []) s.0), s.2);
}

pub goes_end : (whole : List ℕ) (found : List Token) (left : List ℕ) → Goes whole found left → length left ≡ 0 → CutsInto whole found
goes_end whole found [] g e = (rw (← append-nil found) (g.forth [] done), λ us d. let r = g.back us d in r.1 ∙ rw (cuts_end r.2) (append-nil found))
goes_end whole found (b ∷ z) g e = absurd (omega arith)

-- if there is no token, the text can't be split
pub goes_stuck : (whole : List ℕ) (found : List Token) (left : List ℕ) → Goes whole found left → 0 < length left → begins_comment left ≡ false
    → is_white_space (get_or left 0 0) ≡ false → ((n : ℕ) (t : Token) → Longest left n t → ⊥) → CutsIntoNone whole
goes_stuck whole found left g some nc s none = λ us d. stuck left some nc s none _ (g.back us d).2
  where
    stuck : (z : List ℕ) → 0 < length z → begins_comment z ≡ false → is_white_space (get_or z 0 0) ≡ false
        → ((n : ℕ) (t : Token) → Longest z n t → ⊥) → (us : List Token) → Cuts z us → ⊥
    stuck z some nc s none us done = omega arith
    stuck z some nc s none us (space h d) = cc
    stuck z some nc s none us (comment h d) = cc
    stuck z some nc s none us (token h l d) = none _ _ l

pub map_push : {A B : Type 0} (f : A → B) (xs : List A) (x : A) → map f (xs ++ x ∷ []) ≡ map f xs ++ f x ∷ []
map_push f [] x = refl
map_push f (y ∷ xs) x = ap (λ z. f y ∷ z) (map_push f xs x)
