-- How far the traversal of a body has come.
use Rattle.std.proofs.Common.{◌≡◌, ◌≢◌, ℕ, zero, suc, ◌<◌, refl, sym, ◌∙◌, ap, arith, Bool, true, false, Option, Some, None, List, [], ◌∷◌, ◌++◌, length, get_or, drop, append_assoc, append-nil, option_map}
use Rattle.std.specs.Prelude.{nat_eq}
use Rattle.std.proofs.lemmas.Bool.{eqb-true}
use Rattle.cel_syntax_lexer.specs.declared.content.Content.{Content}
use Rattle.cel_syntax_lexer.specs.Escape.{escape, code_bytes, after_escape, unescaped_after, unescaped_bytes}

-- Bytes that belong to an escape are skipped.
passed : (content : Content) (n : ℕ) (s : List ℕ) → unescaped_after content n s ≡ unescaped_bytes content (drop n s)
unfolding unescaped_after
passed content zero s = refl
passed content (suc n) [] = refl
passed content (suc n) (b ∷ s) = passed content n s

joined : (made more : List ℕ) (o : Option (List ℕ)) → option_map (λ s. made ++ s) (option_map (λ s. more ++ s) o) ≡ option_map (λ s. (made ++ more) ++ s) o
joined made more None = refl
joined made more (Some s) = ap (λ (t : List ℕ). Some t) (sym (append_assoc made more s))

-- What was made so far, followed by what the rest denotes, is what the body denotes.
pub record Goes (content : Content) (body made rest : List ℕ) : Type 0 where
  pub same : option_map (λ s. made ++ s) (unescaped_bytes content rest) ≡ unescaped_bytes content body

pub goes_start : (content : Content) (body : List ℕ) → Goes content body [] body
goes_start content body = record { same = whole (unescaped_bytes content body) }
  where
    whole : (o : Option (List ℕ)) → option_map (λ s. [] ++ s) o ≡ o
    whole None = refl
    whole (Some s) = refl

not_equal : (a b : ℕ) → a ≢ b → nat_eq a b ≡ false
not_equal a b other = at (nat_eq a b) refl
  where
    at : (t : Bool) → nat_eq a b ≡ t → t ≡ false
    at true e = absurd (other (eqb-true a b e))
    at false e = refl

plain_byte : (content : Content) (b : ℕ) (z : List ℕ) → b ≢ 92 → unescaped_bytes content (b ∷ z) ≡ option_map (λ s. (b ∷ []) ++ s) (unescaped_bytes content z)
unfolding unescaped_after
plain_byte content b z other = rw (not_equal b 92 other)

pub goes_plain : (content : Content) (body made rest : List ℕ) → 0 < length rest → Goes content body made rest → get_or rest 0 0 ≢ 92
    → Goes content body (made ++ get_or rest 0 0 ∷ []) (drop 1 rest)
goes_plain content body made [] filled goes other = absurd (omega arith)
goes_plain content body made (b ∷ z) filled goes other = record {
  same = sym (joined made (b ∷ []) (unescaped_bytes content z)) ∙ ap (option_map (λ s. made ++ s)) (sym (plain_byte content b z other)) ∙ goes.same;
}

escaped : (content : Content) (z : List ℕ) → unescaped_bytes content (92 ∷ z) ≡ after_escape content (λ n. unescaped_after content n z) (escape content z)
unfolding unescaped_after
escaped content z = refl

pub goes_escape : (content : Content) (body made rest : List ℕ) (e : ℕ × ℕ) → 0 < length rest → Goes content body made rest → get_or rest 0 0 ≡ 92 → escape content (drop 1 rest) ≡ Some e
    → Goes content body (made ++ code_bytes content e.0) (drop e.1 (drop 1 rest))
goes_escape content body made [] e filled goes is read = absurd (omega arith)
goes_escape content body made (b ∷ z) e filled goes is read = record {
  same = sym (joined made (code_bytes content e.0) (unescaped_bytes content (drop e.1 z)))
      ∙ ap (λ o. option_map (λ s. made ++ s) (option_map (λ s. code_bytes content e.0 ++ s) o)) (sym (passed content e.1 z))
      ∙ ap (λ o. option_map (λ s. made ++ s) (after_escape content (λ n. unescaped_after content n z) o)) (sym read)
      ∙ ap (option_map (λ s. made ++ s)) (sym (escaped content z))
      ∙ ap (λ (x : ℕ). option_map (λ s. made ++ s) (unescaped_bytes content (x ∷ z))) (sym is)
      ∙ goes.same;
}

pub goes_stuck : (content : Content) (body made rest : List ℕ) → 0 < length rest → Goes content body made rest → get_or rest 0 0 ≡ 92 → escape content (drop 1 rest) ≡ None
    → unescaped_bytes content body ≡ None
goes_stuck content body made [] filled goes is read = absurd (omega arith)
goes_stuck content body made (b ∷ z) filled goes is read =
    sym goes.same ∙ ap (λ (x : ℕ). option_map (λ s. made ++ s) (unescaped_bytes content (x ∷ z))) is
    ∙ ap (option_map (λ s. made ++ s)) (escaped content z)
    ∙ ap (λ o. option_map (λ s. made ++ s) (after_escape content (λ n. unescaped_after content n z) o)) read

pub goes_end : (content : Content) (body made rest : List ℕ) → length rest ≡ 0 → Goes content body made rest → unescaped_bytes content body ≡ Some made
unfolding unescaped_after
goes_end content body made [] end goes = sym goes.same ∙ ap (λ (t : List ℕ). Some t) (append-nil made)
goes_end content body made (b ∷ z) end goes = absurd (omega arith)

pub has_some : (z : List ℕ) → nat_eq (length z) 0 ≡ false → 0 < length z
has_some [] e = absurd (cc)
has_some (b ∷ z) e = omega arith

pub has_none : (z : List ℕ) → nat_eq (length z) 0 ≡ true → length z ≡ 0
has_none z e = eqb-true (length z) 0 e
