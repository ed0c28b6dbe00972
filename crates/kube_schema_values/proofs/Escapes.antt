-- Escapes of texts, byte by byte and character by character.
use Rattle.std.proofs.Common.{◌≡◌, ℕ, suc, ◌<◌, ◌==◌, Bool, true, false, codes, List, [], ◌∷◌, ◌++◌, length, get_or, refl, sym, ap, ◌∙◌, append-nil, inl, inr, lit<, arith}
use Rattle.std.specs.Char.{encode_utf8}
use Rattle.std.proofs.lemmas.Bool.{cases_eq, ne_eqb}
use Rattle.std.proofs.lemmas.Str.{inside_one, length-encode, len_utf8_bounds, encode_ascii}
use Rattle.kube_schema_values.specs.Escape.{escaped_byte, escaped_text, escaped_character, held_text}

-- a byte that isn't an underscore is escaped by itself
pub escaped_text-cons : (b : ℕ) (t : List ℕ) → (b == 95) ≡ false → escaped_text (b ∷ t) ≡ escaped_byte b ++ escaped_text t
unfolding escaped_text
escaped_text-cons b [] h = sym (append-nil (escaped_byte b))
escaped_text-cons b (c ∷ t) h = rw h refl

-- and so is an underscore before another byte
pub escaped_text-single : (c : ℕ) (t : List ℕ) → (c == 95) ≡ false → escaped_text (95 ∷ c ∷ t) ≡ 95 ∷ escaped_text (c ∷ t)
unfolding escaped_text
escaped_text-single c t h = rw h refl

pub escaped_text-double : (t : List ℕ) → escaped_text (95 ∷ 95 ∷ t) ≡ codes "__underscores__" ++ escaped_text t
unfolding escaped_text
escaped_text-double t = refl

-- a byte that escaping leaves as it is
pub record IsPlain (b : ℕ) : Type 0 where
  pub stays : escaped_byte b ≡ b ∷ []
  pub alone : (b == 95) ≡ false

pub is_plain : (b : ℕ) → (b ≡ 46 → ⊥) → (b ≡ 45 → ⊥) → (b ≡ 47 → ⊥) → (b ≡ 95 → ⊥) → IsPlain b
is_plain b dot dash slash underscore =
    record { stays = rw (ne_eqb b 46 dot, ne_eqb b 45 dash, ne_eqb b 47 slash) refl; alone = ne_eqb b 95 underscore }

-- such bytes before a text
plain_before : (bs t : List ℕ) → ((k : ℕ) → k < length bs → IsPlain (get_or bs k 0)) → escaped_text (bs ++ t) ≡ bs ++ escaped_text t
plain_before [] t plain = refl
plain_before (b ∷ bs) t plain =
    let here = plain 0 (omega arith) in
    escaped_text-cons b (bs ++ t) here.alone ∙ rw here.stays (ap (λ s. b ∷ s) (plain_before bs t (λ k l. plain (suc k) (omega arith))))

-- a text of such bytes
pub plain_text : (bs : List ℕ) → ((k : ℕ) → k < length bs → IsPlain (get_or bs k 0)) → escaped_text bs ≡ bs
unfolding escaped_text
plain_text bs plain = ap escaped_text (sym (append-nil bs)) ∙ plain_before bs [] plain ∙ append-nil bs

-- an ASCII byte within the encoding of a character is the character
pub other_byte : (c k b : ℕ) → k < length (encode_utf8 c) → b < 128 → (c ≡ b → ⊥) → get_or (encode_utf8 c) k 0 ≡ b → ⊥
other_byte c k b inside ascii other h =
    other (inside_one c [] (encode_utf8 c) k (sym (append-nil (encode_utf8 c))) inside (omega (arith, h)) ∙ h)

ascii_alone : (b : ℕ) (t : List ℕ) → b < 128 → (b == 95) ≡ false → escaped_character b ≡ escaped_byte b
    → escaped_text (encode_utf8 b ++ t) ≡ escaped_character b ++ escaped_text t
ascii_alone b t small other same = rw (encode_ascii b small, same) (escaped_text-cons b t other)

-- a character that isn't an underscore is escaped by itself
pub escaped_text-encode : (c : ℕ) (t : List ℕ) → (c ≡ 95 → ⊥) → escaped_text (encode_utf8 c ++ t) ≡ escaped_character c ++ escaped_text t
unfolding escaped_character
escaped_text-encode c t underscore =
    elim (cases_eq c 46) [
      | inl e ↦ rw e (ascii_alone 46 t (lit< tt) refl refl)
      | inr dot ↦ elim (cases_eq c 45) [
        | inl e ↦ rw e (ascii_alone 45 t (lit< tt) refl refl)
        | inr dash ↦ elim (cases_eq c 47) [
          | inl e ↦ rw e (ascii_alone 47 t (lit< tt) refl refl)
          | inr slash ↦ rw (ne_eqb c 46 dot, ne_eqb c 45 dash, ne_eqb c 47 slash) (plain_before (encode_utf8 c) t (λ k l.
              is_plain (get_or (encode_utf8 c) k 0) (other_byte c k 46 l (omega arith) dot) (other_byte c k 45 l (omega arith) dash) (other_byte c k 47 l (omega arith) slash) (other_byte c k 95 l (omega arith) underscore)))
        ]
      ]
    ]

-- an underscore before a text that begins with another byte
before_other : (bs t : List ℕ) → 0 < length bs → (get_or bs 0 0 == 95) ≡ false → escaped_text (95 ∷ (bs ++ t)) ≡ 95 ∷ escaped_text (bs ++ t)
before_other [] t some other = absurd (omega arith)
before_other (b ∷ bs) t some other = escaped_text-single b (bs ++ t) other

-- ---- the next character, after an underscore that may be held back

pub next_double : (holds : Bool) (c : ℕ) (t : List ℕ) → holds ≡ true → c ≡ 95 → codes "__underscores__" ++ escaped_text t ≡ escaped_text (held_text holds ++ (encode_utf8 c ++ t))
next_double holds c t held is = rw (held, is, encode_ascii 95 (lit< tt)) (sym (escaped_text-double t))

pub next_held : (holds : Bool) (c : ℕ) (t : List ℕ) → holds ≡ true → (c ≡ 95 → ⊥) → 95 ∷ (escaped_character c ++ escaped_text t) ≡ escaped_text (held_text holds ++ (encode_utf8 c ++ t))
next_held holds c t held other =
    let some : 0 < length (encode_utf8 c) = omega (arith, length-encode c, (len_utf8_bounds c).0) in
    rw held (ap (λ s. 95 ∷ s) (sym (escaped_text-encode c t other)) ∙ sym (before_other (encode_utf8 c) t some (ne_eqb _ 95 (other_byte c 0 95 some (omega arith) other))))

pub next_free : (holds : Bool) (c : ℕ) (t : List ℕ) → holds ≡ false → (c ≡ 95 → ⊥) → escaped_character c ++ escaped_text t ≡ escaped_text (held_text holds ++ (encode_utf8 c ++ t))
next_free holds c t held other = rw held (sym (escaped_text-encode c t other))

-- after the last character only the held underscore is left
pub escaped_text-last : (holds : Bool) (left : List ℕ) → length left ≡ 0 → escaped_text (held_text holds ++ left) ≡ held_text holds
unfolding escaped_text
escaped_text-last true [] h = refl
escaped_text-last false [] h = refl
escaped_text-last holds (x ∷ left) h = absurd (omega arith)
