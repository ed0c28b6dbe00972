-- The characters of escaped texts.
use Rattle.kubecel_report.proofs.Escaped.{ArePrintable, each_behind, is_printable}
use Rattle.kubecel_report.specs.Escapes.{after, at_start, escaped_rest, escaped_text, is_format, is_hidden, is_separator, is_xml_char, written_behind}
use Rattle.kubecel_report.specs.Safe.{AreSeen, AreXmlChars}
use Rattle.kubecel_report.specs.declared.escape.Before.{Before}
use Rattle.kubecel_report.specs.declared.escape.Escape.{Escape}
use Rattle.kubecel_report.specs.declared.escape.Escape.TheVariants as escape
use Rattle.std.proofs.Common.{◌≡◌, ℕ, ◌<◌, ◌≤◌, ◌==◌, ◌&&◌, ◌||◌, List, [], ◌∷◌, ◌++◌, append-nil, nat_lt, Bool, true, false, not, chars, encode_utf8, refl, sym, ap, ap₂, ◌∙◌, arith}
use Rattle.std.proofs.lemmas.Bool.{agree_below_at, and_from, and_parts, both_ways, cases_lt, le-leb, ltb-true, not-true, not_from_false, or_left, or_right}
use Rattle.std.proofs.lemmas.List.Folds.{list_all-append}
use Rattle.std.proofs.lemmas.Str.{chars-encodes, encode_ascii, encodes-append, scalars-chars}
use Rattle.std.specs.Char.{is_control}
use Rattle.std.specs.Int.{is_in_range}
use Rattle.std.specs.List.{list_all}
use Rattle.std.specs.Str.{IsUtf8, all_scalars, encode_utf8_all}
use lib.Utf8.{scalar, scalar_cases}
use mathlib.Core.Logic.{⊎_elim}

-- a character that is seen
abbrev is_good : ℕ → Bool
is_good c = scalar c && not (is_hidden c)

-- such characters alone
abbrev IsSeen : List ℕ → Type 0
IsSeen bs = (cs : List ℕ) × (encode_utf8_all cs ≡ bs) × (list_all is_good cs ≡ true)

seen_append : (xs ys : List ℕ) → IsSeen xs → IsSeen ys → IsSeen (xs ++ ys)
seen_append xs ys p q = (
  p.0 ++ q.0,
  encodes-append p.0 q.0 ∙ ap₂ ◌++◌ p.1 q.1,
  list_all-append is_good p.0 q.0 ∙ and_from (list_all is_good p.0) (list_all is_good q.0) p.2 q.2,
)

good_printable : (b : ℕ) → is_printable b ≡ true → b < 127 → is_good b ≡ true
good_printable b p below =
    let same = agree_below_at (λ x. is_printable x && is_good x) is_printable 127 b refl below in
    (and_parts (is_printable b) (is_good b) (same ∙ p)).1

seen_printable : (bs : List ℕ) → ArePrintable bs → IsSeen bs
seen_printable [] p = ([], refl, refl)
seen_printable (b ∷ bs) p =
    let parts = and_parts (is_printable b) (list_all is_printable bs) p in
    let below : b < 127 = ltb-true b 127 (and_parts (nat_lt 31 b) (nat_lt b 127) parts.0).1 in
    let small : b < 128 = omega arith in
    let rest = seen_printable bs parts.1 in
    (b ∷ rest.0, ap₂ ◌++◌ (encode_ascii b small) rest.1, and_from (is_good b) (list_all is_good rest.0) (good_printable b parts.0 below) rest.2)

seen_encoded : (c : ℕ) → scalar c ≡ true → is_hidden c ≡ false → IsSeen (encode_utf8 c)
seen_encoded c s e = (c ∷ [], append-nil (encode_utf8 c), and_from (is_good c) true (and_from (scalar c) (not (is_hidden c)) s (not_from_false (is_hidden c) e)) refl)

seen_rest : (e : Escape) (b : Before) (cs : List ℕ) → all_scalars cs ≡ true → IsSeen (escaped_rest e b cs)
seen_rest e b [] s = ([], refl, refl)
seen_rest e b (c ∷ cs) s =
    let parts = and_parts (scalar c) (all_scalars cs) s in
    seen_append (written_behind e b c) (escaped_rest e (after b c) cs) (each_behind IsSeen e b c seen_printable (seen_encoded c parts.0)) (seen_rest e (after b c) cs parts.1)

seen_text : (e : Escape) (text : List ℕ) → IsUtf8 text → IsSeen (escaped_text e text)
unfolding escaped_text
seen_text e text u = seen_rest e at_start (chars text) (scalars-chars text u)

-- ---- what the characters of a list have, if they are good

weaker : (p : ℕ → Bool) → ((c : ℕ) → is_good c ≡ true → p c ≡ true) → (cs : List ℕ) → list_all is_good cs ≡ true → list_all p cs ≡ true
weaker p each [] g = refl
weaker p each (c ∷ cs) g =
    let parts = and_parts (is_good c) (list_all is_good cs) g in
    and_from (p c) (list_all p cs) (each c parts.0) (weaker p each cs parts.1)

scalars_good : (cs : List ℕ) → list_all is_good cs ≡ true → all_scalars cs ≡ true
scalars_good [] g = refl
scalars_good (c ∷ cs) g =
    let parts = and_parts (is_good c) (list_all is_good cs) g in
    and_from (scalar c) (all_scalars cs) (and_parts (scalar c) (not (is_hidden c)) parts.0).0 (scalars_good cs parts.1)

of_characters : (p : ℕ → Bool) → ((c : ℕ) → is_good c ≡ true → p c ≡ true) → (bs : List ℕ) → IsSeen bs → list_all p (chars bs) ≡ true
of_characters p each bs s =
    let same : chars bs ≡ s.0 = ap chars (sym s.1) ∙ chars-encodes s.0 (scalars_good s.0 s.2) in
    ap (list_all p) same ∙ weaker p each s.0 s.2

pub seen : (e : Escape) (text : List ℕ) → IsUtf8 text → AreSeen e text
seen e text u = of_characters (λ c. not (is_hidden c)) (λ c g. (and_parts (scalar c) (not (is_hidden c)) g).1) (escaped_text e text) (seen_text e text u)

-- ---- XML

in_range : (low high c : ℕ) → low ≤ c → c ≤ high → is_in_range low high c ≡ true
in_range low high c p q = and_from _ _ (le-leb low c p) (le-leb c high q)

-- the ranges of characters that XML allows
abbrev by_ranges : ℕ → Bool
by_ranges c = is_in_range 0x20 0xD7FF c || (is_in_range 0xE000 0xFFFD c || is_in_range 0x10000 0x10FFFF c)

in_ranges : (c : ℕ) → by_ranges c ≡ true → is_xml_char c ≡ true
in_ranges c r = or_right (c == 0x9) (c == 0xA || (c == 0xD || by_ranges c)) (or_right (c == 0xA) (c == 0xD || by_ranges c) (or_right (c == 0xD) (by_ranges c) r))

-- a character below the surrogates
low_xml : (c : ℕ) → is_hidden c ≡ false → c < 0xD800 → is_xml_char c ≡ true
low_xml c e below = ⊎_elim
    (λ h. absurd (both_ways (is_hidden c) e (or_left (is_control c) (is_format c || is_separator c) (or_left (is_in_range 0 0x1F c) (is_in_range 0x7F 0x9F c) (in_range 0 0x1F c (omega arith) (omega arith))))))
    (λ h. in_ranges c (or_left (is_in_range 0x20 0xD7FF c) (is_in_range 0xE000 0xFFFD c || is_in_range 0x10000 0x10FFFF c) (in_range 0x20 0xD7FF c h (omega arith))))
    (cases_lt c 32)

-- a character above them
high_xml : (c : ℕ) → is_hidden c ≡ false → 0xE000 ≤ c → c < 0x110000 → is_xml_char c ≡ true
high_xml c e low below = ⊎_elim
    (λ h. in_ranges c (or_right (is_in_range 0x20 0xD7FF c) (is_in_range 0xE000 0xFFFD c || is_in_range 0x10000 0x10FFFF c)
    (or_left (is_in_range 0xE000 0xFFFD c) (is_in_range 0x10000 0x10FFFF c) (in_range 0xE000 0xFFFD c low (omega arith)))))
    (λ h. ⊎_elim
    (λ k. absurd (both_ways (is_hidden c) e (or_right (is_control c) (is_format c || is_separator c)
    (or_right (is_format c) (is_separator c) (or_right (is_in_range 0x2028 0x2029 c) (is_in_range 0xFFFE 0xFFFF c) (in_range 0xFFFE 0xFFFF c h (omega arith)))))))
    (λ k. in_ranges c (or_right (is_in_range 0x20 0xD7FF c) (is_in_range 0xE000 0xFFFD c || is_in_range 0x10000 0x10FFFF c)
    (or_right (is_in_range 0xE000 0xFFFD c) (is_in_range 0x10000 0x10FFFF c) (in_range 0x10000 0x10FFFF c k (omega arith)))))
    (cases_lt c 0x10000))
    (cases_lt c 0xFFFE)

good_xml : (c : ℕ) → is_good c ≡ true → is_xml_char c ≡ true
good_xml c g =
    let parts = and_parts (scalar c) (not (is_hidden c)) g in
    let e = not-true (is_hidden c) parts.1 in
    ⊎_elim (low_xml c e) (λ h. high_xml c e h.0 h.1) (scalar_cases c parts.0)

pub of_xml : (text : List ℕ) → IsUtf8 text → AreXmlChars text
of_xml text u = of_characters is_xml_char good_xml (escaped_text escape.Xml text) (seen_text escape.Xml text u)
