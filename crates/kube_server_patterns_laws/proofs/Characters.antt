-- Characters that are written one after another are read as these characters.
use Rattle.std.proofs.Common.{◌≡◌, ℕ, List, [], ◌∷◌, ◌++◌, Bool, true, false, if◌then◌else◌, codes, refl, ap, sym, ◌∙◌, subst, append-nil, IsUtf8}
use Rattle.std.proofs.lemmas.Str.{encodes-append}
use Rattle.std.specs.Char.{encode_utf8}
use Rattle.std.specs.List.{flat_map}
use Rattle.std.specs.Str.{chars}
use lib.Utf8.{encodes}
use Rattle.regex_hir.specs.Re.{literal}
use Rattle.regex_syntax.proofs.EscapeLemmas.{escaped_is_read_as}
use Rattle.regex_syntax.specs.Verdict.{default_config, escaped_text, is_meta}
use Rattle.kube_server_patterns.specs.Pieces.{character_text, is_special}
use Rattle.kube_server_patterns_laws.specs.Meanings.{IsReadAs}

abbrev escaped_char : ℕ → List ℕ
escaped_char c = if is_meta c then 0x5C ∷ c ∷ [] else c ∷ []

one_by : (c : ℕ) (special : Bool) → (if special then codes "\\" else []) ++ encode_utf8 c ≡ encodes (if special then 0x5C ∷ c ∷ [] else c ∷ [])
unfolding encode_utf8
one_by c true = ap (λ (t : List ℕ). 92 ∷ t) (sym (append-nil (encode_utf8 c)))
one_by c false = sym (append-nil (encode_utf8 c))

one_character : (c : ℕ) → character_text c ≡ encodes (escaped_char c)
unfolding character_text is_special
one_character c = one_by c (is_meta c)

all_characters : (cs : List ℕ) → flat_map character_text cs ≡ encodes (escaped_text cs)
all_characters [] = refl
all_characters (c ∷ cs) =
    ap (λ (t : List ℕ). t ++ flat_map character_text cs) (one_character c)
    ∙ (ap (λ (t : List ℕ). encodes (escaped_char c) ++ t) (all_characters cs) ∙ sym (encodes-append (escaped_char c) (escaped_text cs)))

pub characters_read : (text : List ℕ) → IsUtf8 text → IsReadAs (flat_map character_text (chars text)) (literal text)
characters_read text utf8 = subst (λ (p : List ℕ). IsReadAs p (literal text)) (sym (all_characters (chars text))) (escaped_is_read_as default_config refl refl text utf8)
