-- The text of a web URL parses to that URL.
use Rattle.std.proofs.Common.{◌≡◌, ◌==◌, ◌<◌, ℕ, List, length, slice_index, true, false, Some, None, sym, ◌∙◌, ap, arith, inl, inr}
use Rattle.std.proofs.Math.ListN.{get_or-append}
use Rattle.std.proofs.lemmas.Bool.{cases_Bool, ne_eqb}
use Rattle.std.specs.Char.{is_ascii_alphabetic}
use Rattle.std.specs.Option.{option_map}
use Rattle.std.specs.Result.{result_ok}
use Rattle.url.proofs.Theorems.{parse_url-serialize_special}
use Rattle.url.specs.Parser.{parse_url}
use Rattle.url.specs.Parts.{Parts, IsValid, kind_of, serialize}
use Rattle.url.specs.Scheme.{scheme_len}
use Rattle.url.specs.declared.scheme.SchemeType.TheVariants.{SpecialNotFile}
use Rattle.kube_types.specs.Url.Parts.{shown_of}
use Rattle.kube_types.specs.Url.Reading.{is_path, url_of}
use Rattle.kube_types.proofs.Url.Parsed.{full_other}

-- a scheme starts with a letter
letter_first : (scheme : List ℕ) → 0 < length scheme → scheme_len scheme ≡ length scheme → is_ascii_alphabetic (slice_index scheme 0) ≡ true
unfolding scheme_len
letter_first scheme some whole = elim (cases_Bool (is_ascii_alphabetic (slice_index scheme 0))) [
  | inl letter ↦ letter
  | inr other ↦ let none = rw other at whole in absurd (omega arith)
]

letter_no_slash : (b : ℕ) → is_ascii_alphabetic b ≡ true → (b == 47) ≡ false
letter_no_slash b letter = ne_eqb b 47 (λ e. let slash : is_ascii_alphabetic b ≡ false = ap is_ascii_alphabetic e in cc (letter, slash))

url_no_path : (url : Parts) → IsValid url → is_path (serialize url) ≡ false
url_no_path url valid =
    let scheme = valid.head.scheme in
    let letter = letter_first url.scheme scheme.nonempty scheme.whole in
    let first : slice_index (serialize url) 0 ≡ slice_index url.scheme 0 = get_or-append url.scheme _ 0 0 scheme.nonempty in
    ap (λ b. b == 47) first ∙ letter_no_slash (slice_index url.scheme 0) letter

pub reads_back : (url : Parts) → IsValid url → kind_of url ≡ SpecialNotFile → url_of (serialize url) ≡ Some (shown_of url false)
unfolding url_of
reads_back url valid special =
    let text = serialize url in
    let other = url_no_path url valid in
    ap (λ t. option_map (λ (u : Parts). shown_of u (is_path text)) (result_ok (parse_url None t))) (sym (full_other text other))
    ∙ ap (λ r. option_map (λ (u : Parts). shown_of u (is_path text)) (result_ok r)) (parse_url-serialize_special url None valid special)
    ∙ ap (λ b. Some (shown_of url b)) other
