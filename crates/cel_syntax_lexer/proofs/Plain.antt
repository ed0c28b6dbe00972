-- Bodies that denote themselves.
use Rattle.std.proofs.Common.{◌≡◌, ℕ, ◌-◌, refl, ◌∙◌, ap, arith, Bool, true, false, not, Some, None, List, [], ◌∷◌, ◌++◌, length, take, drop, length-append, option_map}
use Rattle.std.specs.Prelude.{nat_eq}
use Rattle.std.specs.Str.{is_utf8}
use Rattle.std.proofs.lemmas.Bool.Decides.{nat_tests}
use Rattle.std.proofs.lemmas.List.{take-append-le}
use Rattle.cel_value.specs.Data.{text, bytes}
use Rattle.cel_syntax_lexer.specs.declared.content.Content.{Content}
use Rattle.cel_syntax_lexer.specs.declared.content.Content.TheVariants.{Text, Bytes}
use Rattle.cel_syntax_lexer.specs.Escape.{unescaped_after, unescaped_bytes}
use Rattle.cel_syntax_lexer.specs.Plain.{is_free_of}
use Rattle.cel_syntax_lexer.specs.StringValues.{before_quotes, between, body_of, content_bytes, quoted_value}
use Rattle.cel_syntax_lexer.proofs.Numerals.{both}

is_not : (b : Bool) → not b ≡ true → b ≡ false
is_not true e = absurd (cc)
is_not false e = refl

itself : (content : Content) (s : List ℕ) → is_free_of 92 s ≡ true → unescaped_bytes content s ≡ Some s
unfolding unescaped_after
itself content [] e = refl
itself content (c ∷ s) e =
    let parts = both (not (nat_eq c 92)) (is_free_of 92 s) e in
    rw (is_not (nat_eq c 92) parts.0) (ap (option_map (λ made. c ∷ made)) (itself content s parts.1))

-- ---- the body between two quotes

drop_whole : (s t : List ℕ) → drop (length s) (s ++ t) ≡ t
drop_whole [] t = refl
drop_whole (x ∷ s) t = drop_whole s t

take_whole : (s : List ℕ) → take (length s) s ≡ s
take_whole [] = refl
take_whole (x ∷ s) = ap (λ (t : List ℕ). x ∷ t) (take_whole s)

closed : (s : List ℕ) → before_quotes (34 ∷ []) (s ++ 34 ∷ []) ≡ Some s
closed s =
    let n : length (s ++ 34 ∷ []) - 1 ≡ length s = omega (arith, length-append s (34 ∷ [])) in
    rw (n, drop_whole s (34 ∷ []), take-append-le (length s) s (34 ∷ []) (omega arith), take_whole s)

not_tripled : (s : List ℕ) → is_free_of 34 s ≡ true → between (34 ∷ 34 ∷ 34 ∷ []) (34 ∷ s ++ 34 ∷ []) ≡ None
unfolding between
not_tripled [] e = refl
not_tripled (c ∷ s) e =
    let parts = both (not (nat_eq c 34)) (is_free_of 34 s) e in
    rw (sym_eq 34 c ∙ is_not (nat_eq c 34) parts.0)
  where
    sym_eq : (a b : ℕ) → nat_eq a b ≡ nat_eq b a
    sym_eq a b = grind (arith, nat_tests)

pub body_plain : (s : List ℕ) → is_free_of 34 s ≡ true → body_of (34 ∷ s ++ 34 ∷ []) ≡ Some s
unfolding body_of between
body_plain s e = rw (not_tripled s e) (closed s)

-- ---- values

pub string_plain : (s : List ℕ) → is_free_of 34 s ≡ true → is_free_of 92 s ≡ true → is_utf8 s ≡ true → quoted_value (34 ∷ s ++ 34 ∷ []) ≡ Some (text s)
unfolding quoted_value content_bytes
string_plain s quotes slashes utf8 = rw (body_plain s quotes, itself Text s slashes, utf8)

pub bytes_plain : (s : List ℕ) → is_free_of 34 s ≡ true → is_free_of 92 s ≡ true → quoted_value (98 ∷ 34 ∷ s ++ 34 ∷ []) ≡ Some (bytes s)
unfolding quoted_value content_bytes
bytes_plain s quotes slashes = rw (body_plain s quotes, itself Bytes s slashes)

pub raw_plain : (s : List ℕ) → is_free_of 34 s ≡ true → is_utf8 s ≡ true → quoted_value (114 ∷ 34 ∷ s ++ 34 ∷ []) ≡ Some (text s)
unfolding quoted_value content_bytes
raw_plain s quotes utf8 = rw (body_plain s quotes, utf8)
