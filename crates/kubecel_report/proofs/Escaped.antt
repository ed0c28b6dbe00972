-- Escapes consist of characters of ASCII that are seen.
use Rattle.kubecel_report.specs.Escapes.{after, by_escape, character_reference, command_escape, code_unit, data_escape, escape_of, escaped_character, escaped_rest, hidden_escape, is_hidden, is_xml_char, property_escape, shown_escape, is_of_command, unicode_escape, written_behind, xml_escape}
use Rattle.kubecel_report.specs.declared.escape.Before.{Before}
use Rattle.kubecel_report.specs.declared.escape.Escape.{Escape}
use Rattle.kubecel_report.specs.declared.escape.Escape.TheVariants as escape
use Rattle.std.proofs.Common.{◌≡◌, ℕ, zero, suc, ◌+◌, ◌-◌, ◌/◌, ◌%◌, ◌<◌, ◌==◌, ◌&&◌, List, [], ◌∷◌, ◌++◌, nat_lt, Bool, true, false, if◌then◌else◌, Option, Some, None, IfSome, codes, decimal, encode_utf8, append-nil, append_assoc, refl, sym, ap, ◌∙◌, arith}
use Rattle.std.proofs.lemmas.Bool.{and_from, cond_both, lt-ltb}
use Rattle.std.proofs.lemmas.List.Folds.{list_all-append}
use Rattle.std.specs.Char.{digit_char}
use Rattle.std.specs.Fmt.{digits, digits_onto, digit_glyph}
use Rattle.std.specs.List.{list_all}

-- a character of ASCII with a glyph, or a blank
abbrev pub is_printable : ℕ → Bool
is_printable b = nat_lt 31 b && nat_lt b 127

abbrev pub ArePrintable : List ℕ → Type 0
ArePrintable bs = list_all is_printable bs ≡ true

printable : (b : ℕ) → 31 < b → b < 127 → is_printable b ≡ true
printable b low high = and_from (nat_lt 31 b) (nat_lt b 127) (lt-ltb 31 b low) (lt-ltb b 127 high)

pub both : (xs ys : List ℕ) → ArePrintable xs → ArePrintable ys → ArePrintable (xs ++ ys)
both xs ys p q = list_all-append is_printable xs ys ∙ and_from (list_all is_printable xs) (list_all is_printable ys) p q

before : (b : ℕ) (bs : List ℕ) → is_printable b ≡ true → ArePrintable bs → ArePrintable (b ∷ bs)
before b bs p q = and_from (is_printable b) (list_all is_printable bs) p q

-- ---- digits

hex : (d : ℕ) → d < 16 → is_printable (digit_char d) ≡ true
hex d small = cond_both (nat_lt d 10) (48 + d) (87 + d) (λ b. is_printable b ≡ true) (λ e. printable (48 + d) (omega arith) (omega arith)) (λ e. printable (87 + d) (omega arith) (omega arith))

unit : (n : ℕ) → ArePrintable (code_unit n)
unfolding code_unit
unit n =
    let four = digit_char (n % 16) ∷ [] in
    let three = digit_char (n / 0x10 % 16) ∷ four in
    let two = digit_char (n / 0x100 % 16) ∷ three in
    let one = digit_char (n / 0x1000 % 16) ∷ two in
    let last : n % 16 < 16 = omega arith in
    let third : n / 0x10 % 16 < 16 = omega arith in
    let second : n / 0x100 % 16 < 16 = omega arith in
    let first : n / 0x1000 % 16 < 16 = omega arith in
    let seen_four : ArePrintable four = before (digit_char (n % 16)) [] (hex (n % 16) last) refl in
    let seen_three : ArePrintable three = before (digit_char (n / 0x10 % 16)) four (hex (n / 0x10 % 16) third) seen_four in
    let seen_two : ArePrintable two = before (digit_char (n / 0x100 % 16)) three (hex (n / 0x100 % 16) second) seen_three in
    let seen_one : ArePrintable one = before (digit_char (n / 0x1000 % 16)) two (hex (n / 0x1000 % 16) first) seen_two in
    before 92 (117 ∷ one) refl (before 117 one refl seen_one)

pub by_unicode : (c : ℕ) → ArePrintable (unicode_escape c)
unfolding unicode_escape
by_unicode c = cond_both (nat_lt c 0x10000) (code_unit c) (code_unit (0xD800 + (c - 0x10000) / 0x400) ++ code_unit (0xDC00 + (c - 0x10000) % 0x400)) ArePrintable
    (λ e. unit c)
    (λ e. both (code_unit (0xD800 + (c - 0x10000) / 0x400)) (code_unit (0xDC00 + (c - 0x10000) % 0x400)) (unit (0xD800 + (c - 0x10000) / 0x400)) (unit (0xDC00 + (c - 0x10000) % 0x400)))

glyph : (d : ℕ) → d < 10 → is_printable (digit_glyph false d) ≡ true
glyph d small = cond_both (nat_lt d 10) (48 + d) (87 + d) (λ b. is_printable b ≡ true) (λ e. printable (48 + d) (omega arith) (omega arith)) (λ e. printable (87 + d) (omega arith) (omega arith))

onto : (k n : ℕ) (acc : List ℕ) → ArePrintable acc → ArePrintable (digits_onto k 10 false n acc)
onto zero n acc p = p
onto (suc k) n acc p =
    let one = before (digit_glyph false (n % 10)) acc (glyph (n % 10) (omega arith)) p in
    cond_both (n / 10 == 0) (digit_glyph false (n % 10) ∷ acc) (digits_onto k 10 false (n / 10) (digit_glyph false (n % 10) ∷ acc)) ArePrintable (λ e. one) (λ e. onto k (n / 10) _ one)

pub by_decimal : (n : ℕ) → ArePrintable (decimal n)
unfolding digits
by_decimal n = onto 64 n [] refl

by_reference : (c : ℕ) → ArePrintable (character_reference c)
unfolding character_reference
by_reference c = both (codes "&#") (decimal c ++ codes ";") refl (both (decimal c) (codes ";") (by_decimal c) refl)

-- ---- escapes

by_hidden : (e : Escape) (c : ℕ) → ArePrintable (hidden_escape e c)
by_hidden escape.Shown c = by_unicode c
by_hidden escape.Json c = by_unicode c
by_hidden escape.Xml c = cond_both (is_xml_char c) (character_reference c) (unicode_escape c) ArePrintable (λ e. by_reference c) (λ e. by_unicode c)
by_hidden escape.Data c = by_unicode c
by_hidden escape.Property c = by_unicode c

abbrev Fixed : Option (List ℕ) → Type 0
Fixed o = IfSome o ArePrintable

one_or : (b : Bool) (text : List ℕ) (o : Option (List ℕ)) → ArePrintable text → Fixed o → Fixed (if b then Some text else o)
one_or true text o p q = p
one_or false text o p q = q

shown_fixed : (c : ℕ) → Fixed (shown_escape c)
shown_fixed c = one_or (c == 9) (codes "\\t") _ refl (one_or (c == 10) (codes "\\n") _ refl (one_or (c == 13) (codes "\\r") None refl tt))

data_fixed : (c : ℕ) → Fixed (data_escape c)
data_fixed c = one_or (c == 37) (codes "%25") _ refl (one_or (c == 13) (codes "%0D") _ refl (one_or (c == 10) (codes "%0A") (shown_escape c) refl (shown_fixed c)))

property_fixed : (c : ℕ) → Fixed (property_escape c)
property_fixed c = one_or (c == 58) (codes "%3A") _ refl (one_or (c == 44) (codes "%2C") (data_escape c) refl (data_fixed c))

xml_fixed : (c : ℕ) → Fixed (xml_escape c)
xml_fixed c = one_or (c == 38) (codes "&amp;") _ refl (one_or (c == 60) (codes "&lt;") _ refl (one_or (c == 62) (codes "&gt;") _ refl (one_or (c == 34) (codes "&quot;") None refl tt)))

all_fixed : (e : Escape) (c : ℕ) → Fixed (escape_of e c)
all_fixed escape.Shown c = shown_fixed c
all_fixed escape.Json c = tt
all_fixed escape.Xml c = xml_fixed c
all_fixed escape.Data c = data_fixed c
all_fixed escape.Property c = property_fixed c

by_cases : (P : List ℕ → Type 0) (e : Escape) (c : ℕ) (o : Option (List ℕ)) → Fixed o → ((bs : List ℕ) → ArePrintable bs → P bs) → (is_hidden c ≡ false → P (encode_utf8 c)) → P (by_escape e c o)
by_cases P e c None fixed escaped seen = cond_both (is_hidden c) (hidden_escape e c) (encode_utf8 c) P (λ h. escaped (hidden_escape e c) (by_hidden e c)) seen
by_cases P e c (Some text) fixed escaped seen = escaped text fixed

-- what holds of such escapes, and of each character that is seen, holds of each character as it is written
pub each_character : (P : List ℕ → Type 0) (e : Escape) (c : ℕ) → ((bs : List ℕ) → ArePrintable bs → P bs) → (is_hidden c ≡ false → P (encode_utf8 c)) → P (escaped_character e c)
unfolding escaped_character
each_character P e c escaped seen = by_cases P e c (escape_of e c) (all_fixed e c) escaped seen

by_command : (P : List ℕ → Type 0) (e : Escape) (c : ℕ) → ((bs : List ℕ) → ArePrintable bs → P bs) → (is_hidden c ≡ false → P (encode_utf8 c)) → P (command_escape e c)
by_command P escape.Shown c escaped seen = escaped (unicode_escape c) (by_unicode c)
by_command P escape.Json c escaped seen = escaped (unicode_escape c) (by_unicode c)
by_command P escape.Xml c escaped seen = escaped (character_reference c) (by_reference c)
by_command P escape.Data c escaped seen = each_character P escape.Data c escaped seen
by_command P escape.Property c escaped seen = each_character P escape.Property c escaped seen

-- the same, wherever the character stands
pub each_behind : (P : List ℕ → Type 0) (e : Escape) (s : Before) (c : ℕ) → ((bs : List ℕ) → ArePrintable bs → P bs) → (is_hidden c ≡ false → P (encode_utf8 c)) → P (written_behind e s c)
unfolding written_behind
each_behind P e s c escaped seen = cond_both (is_of_command s c) (command_escape e c) (escaped_character e c) P (λ h. by_command P e c escaped seen) (λ h. each_character P e c escaped seen)

-- ---- character by character

-- what stands behind some characters
abbrev pub after_all : Before → List ℕ → Before
after_all s [] = s
after_all s (c ∷ cs) = after_all (after s c) cs

pub one_more : (e : Escape) (s : Before) (cs : List ℕ) (c : ℕ) → escaped_rest e s (cs ++ c ∷ []) ≡ escaped_rest e s cs ++ written_behind e (after_all s cs) c
one_more e s [] c = append-nil (written_behind e s c)
one_more e s (d ∷ cs) c = ap (λ xs. written_behind e s d ++ xs) (one_more e (after s d) cs c) ∙ sym (append_assoc (written_behind e s d) (escaped_rest e (after s d) cs) (written_behind e (after_all (after s d) cs) c))

pub after_one_more : (s : Before) (cs : List ℕ) (c : ℕ) → after_all s (cs ++ c ∷ []) ≡ after (after_all s cs) c
after_one_more s [] c = refl
after_one_more s (d ∷ cs) c = after_one_more (after s d) cs c
