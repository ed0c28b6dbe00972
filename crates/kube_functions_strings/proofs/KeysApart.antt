-- The escapes of a JSON Pointer's key distinguish characters, and so texts.
use Rattle.std.proofs.Common.{◌≡◌, ℕ, ◌<◌, arith, List, [], ◌∷◌, ◌++◌, length, get_or, Bool, true, false, cond, Some, None, refl, ap, sym, ◌∙◌, true≢false, length-append}
use Rattle.std.specs.Prelude.{◌==◌, codes, encode_utf8}
use Rattle.std.specs.List.{flat_map}
use Rattle.std.specs.Option.{unwrap_or}
use Rattle.std.specs.Str.{chars, encode_utf8_all}
use Rattle.std.proofs.lemmas.Bool.{eqb-true}
use Rattle.std.proofs.lemmas.Str.{encode_same, encode_ascii, length-encode, len_utf8_bounds, encodes-chars}
use Rattle.kube_functions_strings.specs.Escapes.{escaped_character, KeysDiffer}
use Rattle.kube_functions_strings.specs.declared.quoting.Escaping.TheVariants.{Pointer}

-- the escape of a character, by whether it is a tilde or a slash
abbrev key_text : ℕ → Bool → Bool → List ℕ
key_text c true b = 126 ∷ 48 ∷ []
key_text c false true = 126 ∷ 49 ∷ []
key_text c false false = encode_utf8 c

by_tests : (c : ℕ) (b d : Bool) → unwrap_or (cond b (Some (codes "~0")) (cond d (Some (codes "~1")) None)) (encode_utf8 c) ≡ key_text c b d
by_tests c true d = refl
by_tests c false true = refl
by_tests c false false = refl

tests : (c : ℕ) → escaped_character Pointer c ≡ key_text c (c == 126) (c == 47)
tests c = by_tests c (c == 126) (c == 47)

-- a character other than a tilde doesn't begin with one in UTF-8
no_tilde : (c : ℕ) (r t : List ℕ) → (c == 126) ≡ false → encode_utf8 c ++ r ≡ 126 ∷ t → ⊥
no_tilde c r t other h =
    let tilde : encode_utf8 126 ≡ 126 ∷ [] = encode_ascii 126 (omega arith) in
    let same = encode_same c 126 r t (h ∙ sym (ap (λ x. x ++ t) tilde)) in
    true≢false (sym (ap (λ n. n == 126) same.0) ∙ other)

-- the two escapes differ
not_both : (r t : List ℕ) → 126 ∷ 48 ∷ r ≡ 126 ∷ 49 ∷ t → ⊥
not_both r t h = let e : ◌≡◌ {A = ℕ} 48 49 = ap (λ (xs : List ℕ). get_or xs 1 0) h in omega arith

apart : (c d : ℕ) (r t : List ℕ) (a b e f : Bool) → (c == 126) ≡ a → (c == 47) ≡ b → (d == 126) ≡ e → (d == 47) ≡ f → key_text c a b ++ r ≡ key_text d e f ++ t → (c ≡ d) × (r ≡ t)
apart c d r t true b true f ca cb de df h = (eqb-true c 126 ca ∙ sym (eqb-true d 126 de), cc)
apart c d r t true b false true ca cb de df h = absurd (not_both r t h)
apart c d r t true b false false ca cb de df h = absurd (no_tilde d t (48 ∷ r) de (sym h))
apart c d r t false true true f ca cb de df h = absurd (not_both t r (sym h))
apart c d r t false true false true ca cb de df h = (eqb-true c 47 cb ∙ sym (eqb-true d 47 df), cc)
apart c d r t false true false false ca cb de df h = absurd (no_tilde d t (49 ∷ r) de (sym h))
apart c d r t false false true f ca cb de df h = absurd (no_tilde c r (48 ∷ t) ca h)
apart c d r t false false false true ca cb de df h = absurd (no_tilde c r (49 ∷ t) ca h)
apart c d r t false false false false ca cb de df h = encode_same c d r t h

characters_apart : (c d : ℕ) (r t : List ℕ) → escaped_character Pointer c ++ r ≡ escaped_character Pointer d ++ t → (c ≡ d) × (r ≡ t)
characters_apart c d r t h =
    apart c d r t (c == 126) (c == 47) (d == 126) (d == 47) refl refl refl refl
    (sym (ap (λ x. x ++ r) (tests c)) ∙ h ∙ ap (λ x. x ++ t) (tests d))

long_by : (c : ℕ) (a b : Bool) → 0 < length (key_text c a b)
long_by c true b = omega arith
long_by c false true = omega arith
long_by c false false = omega (arith, length-encode c, (len_utf8_bounds c).0)

long : (c : ℕ) → 0 < length (escaped_character Pointer c)
long c = let h = long_by c (c == 126) (c == 47) in omega (arith, ap length (tests c))

none_left : (c : ℕ) (r : List ℕ) → escaped_character Pointer c ++ r ≡ [] → ⊥
none_left c r h = let l = long c in omega (arith, ap length h, length-append (escaped_character Pointer c) r)

lists_apart : (cs ds : List ℕ) → flat_map (escaped_character Pointer) cs ≡ flat_map (escaped_character Pointer) ds → cs ≡ ds
lists_apart [] [] h = refl
lists_apart [] (d ∷ ds) h = absurd (none_left d (flat_map (escaped_character Pointer) ds) (sym h))
lists_apart (c ∷ cs) [] h = absurd (none_left c (flat_map (escaped_character Pointer) cs) h)
lists_apart (c ∷ cs) (d ∷ ds) h =
    let both = characters_apart c d (flat_map (escaped_character Pointer) cs) (flat_map (escaped_character Pointer) ds) h in
    ap (λ x. x ∷ cs) both.0 ∙ ap (λ xs. d ∷ xs) (lists_apart cs ds both.1)

pub keys_apart : KeysDiffer
keys_apart s t us ut h =
    let same = lists_apart (chars s) (chars t) h in
    sym (encodes-chars s us) ∙ ap encode_utf8_all same ∙ encodes-chars t ut
