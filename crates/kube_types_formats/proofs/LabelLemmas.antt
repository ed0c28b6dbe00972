-- How the rules for labels are related.
use Rattle.std.proofs.Common.{◌≡◌, ℕ, ◌==◌, Bool, true, false, not, ◌||◌, ltb, List, [], ◌∷◌, ◌++◌, length, refl, arith, if◌then◌else◌}
use Rattle.std.proofs.lemmas.Bool.Decides.{nat_tests}
use Rattle.std.specs.Char.{is_ascii_lowercase}
use Rattle.std.specs.List.{list_all}
use Rattle.kube_types_formats.specs.declared.dns.Label.TheVariants.{Rfc1123, Rfc1123Prefix, Rfc1035}
use Rattle.kube_types_formats.specs.declared.fault.Fault.TheVariants.{Empty, TooLong, NotLabel, FirstNotLetter, FirstNotAlphanumeric, LastNotAlphanumeric, EndNotAlphanumeric}
use Rattle.kube_types_formats.specs.Found.{faults_found, fault_line}
use Rattle.kube_types_formats.specs.Labels.{is_label_byte, first_byte, last_byte, end_tests, label_faults}

letter_is_no_hyphen : (c : ℕ) → is_ascii_lowercase c ≡ true → (c == 45) ≡ false
letter_is_no_hyphen c h = grind (arith, nat_tests)

-- a label of RFC 1035 is one of RFC 1123
pub letter_label_is_label : (text : List ℕ) → label_faults Rfc1035 [] text ≡ [] → label_faults Rfc1123 [] text ≡ []
unfolding label_faults end_tests faults_found
letter_label_is_label text e =
    by_tests (length text) (length text == 0) (ltb 63 (length text)) (not (list_all is_label_byte text)) (is_ascii_lowercase (first_byte text)) (first_byte text == 45) (last_byte text == 45) (letter_is_no_hyphen (first_byte text)) e
  where
    by_tests : (n : ℕ) (none long other letter first last : Bool) → (letter ≡ true → first ≡ false) → (if none then fault_line [] Empty ∷ [] else faults_found [] ((long, TooLong 63 n) ∷ (other, NotLabel) ∷ []) ++ faults_found [] ((not letter, FirstNotLetter) ∷ (last, LastNotAlphanumeric) ∷ [])) ≡ [] → (if none then fault_line [] Empty ∷ [] else faults_found [] ((long, TooLong 63 n) ∷ (other, NotLabel) ∷ []) ++ faults_found [] ((first || last, EndNotAlphanumeric) ∷ [])) ≡ []
    by_tests n true long other letter first last apart e = cc
    by_tests n false true other letter first last apart e = cc
    by_tests n false false true letter first last apart e = cc
    by_tests n false false false false first last apart e = cc
    by_tests n false false false true first true apart e = cc
    by_tests n false false false true true false apart e = let clash = apart refl in cc
    by_tests n false false false true false false apart e = refl

-- a label is a prefix of a label
pub label_is_prefix : (text : List ℕ) → label_faults Rfc1123 [] text ≡ [] → label_faults Rfc1123Prefix [] text ≡ []
unfolding label_faults end_tests faults_found
label_is_prefix text e =
    by_tests (length text) (length text == 0) (ltb 63 (length text)) (not (list_all is_label_byte text)) (first_byte text == 45) (last_byte text == 45) e
  where
    by_tests : (n : ℕ) (none long other first last : Bool) → (if none then fault_line [] Empty ∷ [] else faults_found [] ((long, TooLong 63 n) ∷ (other, NotLabel) ∷ []) ++ faults_found [] ((first || last, EndNotAlphanumeric) ∷ [])) ≡ [] → (if none then fault_line [] Empty ∷ [] else faults_found [] ((long, TooLong 63 n) ∷ (other, NotLabel) ∷ []) ++ faults_found [] ((first, FirstNotAlphanumeric) ∷ [])) ≡ []
    by_tests n true long other first last e = cc
    by_tests n false true other first last e = cc
    by_tests n false false true first last e = cc
    by_tests n false false false true last e = cc
    by_tests n false false false false true e = cc
    by_tests n false false false false false e = refl
