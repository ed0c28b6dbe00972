-- The codes of escapes.
use Rattle.std.proofs.Common.{◌≡◌, ℕ, ◌^◌, ◌<◌, ◌≤◌, refl, subst, arith, Bool, true, false, Option, Some, None, List, [], ◌∷◌, length, cond, ◌||◌}
use Rattle.std.specs.Prelude.{nat_lt, nat_le, nat_eq}
use Rattle.std.specs.Char.{is_digit}
use Rattle.std.specs.Option.{option_and_then}
use Rattle.std.proofs.lemmas.Bool.{ltb-true, leb-true}
use Rattle.std.proofs.lemmas.Bool.Decides.{nat_tests}
use Rattle.std.proofs.lemmas.Option.{same_Some}
use Rattle.cel_syntax_lexer.specs.Number.{of_64_bits}
use Rattle.cel_syntax_lexer.specs.Escape.{letter_code, digits_code, octet, code_point, octet_code, unicode_code, code_and_size, escape}
use Rattle.cel_syntax_lexer.specs.declared.content.Content.{Content}
use Rattle.cel_syntax_lexer.specs.declared.content.Content.TheVariants.{Text, Bytes}
use Rattle.cel_syntax_lexer.proofs.Bits.{of_bits}

octet_past : (n : ℕ) → 2 ^ 64 ≤ n → octet n ≡ None
octet_past n h = let no : nat_lt n 256 ≡ false = grind (arith, nat_tests) in rw no

pub octet_of_bits : (o : Option ℕ) → option_and_then octet (option_and_then of_64_bits o) ≡ option_and_then octet o
octet_of_bits o = of_bits octet octet_past o

code_point_past : (n : ℕ) → 2 ^ 64 ≤ n → code_point n ≡ None
code_point_past n h =
    let low : nat_lt n 0xD800 ≡ false = grind (arith, nat_tests) in
    let high : nat_le n 0x10FFFF ≡ false = grind (arith, nat_tests) in
    let mid : nat_le 0xE000 n ≡ true = grind (arith, nat_tests) in
    rw (low, high, mid)

pub code_point_of_bits : (o : Option ℕ) → option_and_then code_point (option_and_then of_64_bits o) ≡ option_and_then code_point o
code_point_of_bits o = of_bits code_point code_point_past o

-- ---- properties of a valid escape

none_some : {A : Type 0} {x : A} → None ≡ Some x → ⊥
none_some e = cc

-- A property of both options is one of either.
either_gives : {A : Type 0} (P : A → Type 0) (b : Bool) (o p : Option A) → (b ≡ true → (x : A) → o ≡ Some x → P x) → ((x : A) → p ≡ Some x → P x) → (x : A) → cond b o p ≡ Some x → P x
either_gives P true o p f g x e = f refl x e
either_gives P false o p f g x e = g x e

-- A property of a function's results is one of the result at an option's value.
step_gives : {A B : Type 0} (P : B → Type 0) (f : A → Option B) (o : Option A) → ((x : A) → o ≡ Some x → (y : B) → f x ≡ Some y → P y) → (y : B) → option_and_then f o ≡ Some y → P y
step_gives P f None h y e = absurd (none_some e)
step_gives P f (Some x) h y e = h x refl y e

this : (P : ℕ → Type 0) (n : ℕ) → P n → (x : ℕ) → Some n ≡ Some x → P x
this P n p x e = subst P (same_Some n x e) p

digits_within : (radix n : ℕ) (s : List ℕ) (x : ℕ) → digits_code radix n s ≡ Some x → n ≤ length s
unfolding digits_code
digits_within radix n s x e = either_gives (λ _. n ≤ length s) (nat_le n (length s)) _ _ (λ b _ _. leb-true n (length s) b) (λ _ f. absurd (none_some f)) x e

octet_small : (n x : ℕ) → octet n ≡ Some x → x < 256
octet_small n x e = either_gives (λ x. x < 256) (nat_lt n 256) _ _ (λ b x is. this (λ x. x < 256) n (ltb-true n 256 b) x is) (λ _ f. absurd (none_some f)) x e

-- in bytes the code is a byte, and the escape ends within what follows the backslash
abbrev pub Fits : Content → List ℕ → ℕ × ℕ → Type 0
Fits content s e = (e.1 ≤ length s) × (content ≡ Bytes → e.0 < 256)

octet_facts : (radix n : ℕ) (s : List ℕ) (x : ℕ) → octet_code radix n s ≡ Some x → (n ≤ length s) × (x < 256)
unfolding octet_code
octet_facts radix n s x e = step_gives (λ x. (n ≤ length s) × (x < 256)) octet (digits_code radix n s) (λ d is y o. (digits_within radix n s d is, octet_small d y o)) x e

unicode_facts : (content : Content) (n : ℕ) (s : List ℕ) (x : ℕ) → unicode_code content n s ≡ Some x → (n ≤ length s) × (content ≡ Bytes → x < 256)
unfolding unicode_code
unicode_facts Text n s x e = step_gives (λ x. (n ≤ length s) × (Text ≡ Bytes → x < 256)) code_point (digits_code 16 n s) (λ d is y o. (digits_within 16 n s d is, λ same. absurd (cc))) x e
unicode_facts Bytes n s x e = absurd (none_some e)

letter_small : (c x : ℕ) → letter_code c ≡ Some x → x < 256
unfolding letter_code
letter_small c x e =
    let P : ℕ → Type 0 = λ x. x < 256 in
    either_gives P (nat_eq c 97) _ _ (λ _ x is. this P 7 (omega arith) x is)
    (either_gives P (nat_eq c 98) _ _ (λ _ x is. this P 8 (omega arith) x is)
    (either_gives P (nat_eq c 102) _ _ (λ _ x is. this P 12 (omega arith) x is)
    (either_gives P (nat_eq c 110) _ _ (λ _ x is. this P 10 (omega arith) x is)
    (either_gives P (nat_eq c 114) _ _ (λ _ x is. this P 13 (omega arith) x is)
    (either_gives P (nat_eq c 116) _ _ (λ _ x is. this P 9 (omega arith) x is)
    (either_gives P (nat_eq c 118) _ _ (λ _ x is. this P 11 (omega arith) x is)
    (either_gives P (nat_eq c 92 || (nat_eq c 63 || (nat_eq c 34 || (nat_eq c 39 || nat_eq c 96)))) _ _ (λ b x is. this P c (itself c b) x is) (λ _ f. absurd (none_some f))))))))) x e
  where
    itself : (c : ℕ) → (nat_eq c 92 || (nat_eq c 63 || (nat_eq c 34 || (nat_eq c 39 || nat_eq c 96)))) ≡ true → c < 256
    itself c b = grind (arith, nat_tests)

sized_gives : (P : ℕ × ℕ → Type 0) (n : ℕ) (o : Option ℕ) → ((x : ℕ) → o ≡ Some x → P (x, n)) → (e : ℕ × ℕ) → code_and_size n o ≡ Some e → P e
sized_gives P n None h e is = absurd (none_some is)
sized_gives P n (Some x) h e is = subst P (same_Some (x, n) e is) (h x refl)

pub escape_fits : (content : Content) (s : List ℕ) (e : ℕ × ℕ) → escape content s ≡ Some e → Fits content s e
unfolding escape
escape_fits content [] e is = absurd (none_some is)
escape_fits content (c ∷ s) e is =
    let P : ℕ × ℕ → Type 0 = Fits content (c ∷ s) in
    either_gives P (nat_eq c 120 || nat_eq c 88) _ _ (λ _. sized_gives P 3 (octet_code 16 2 s) (λ x o. let f = octet_facts 16 2 s x o in (omega (arith, f.0), λ _. f.1)))
    (either_gives P (nat_eq c 117) _ _ (λ _. sized_gives P 5 (unicode_code content 4 s) (λ x o. let f = unicode_facts content 4 s x o in (omega (arith, f.0), f.1)))
    (either_gives P (nat_eq c 85) _ _ (λ _. sized_gives P 9 (unicode_code content 8 s) (λ x o. let f = unicode_facts content 8 s x o in (omega (arith, f.0), f.1)))
    (either_gives P (is_digit c 8) _ _ (λ _. sized_gives P 3 (octet_code 8 3 (c ∷ s)) (λ x o. let f = octet_facts 8 3 (c ∷ s) x o in (f.0, λ _. f.1)))
    (sized_gives P 1 (letter_code c) (λ x o. (omega arith, λ _. letter_small c x o)))))) e is
