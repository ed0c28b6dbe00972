-- Trusted by the headline.
-- DNS labels and subdomains, as Kubernetes uses them for the names of objects.
-- Sources: RFC 1123, section 2.1, which lets a label of RFC 1035, section
-- 2.3.1, start with a digit; the Kubernetes page "Object Names and IDs".
-- Letters are lower case, a label has at most 63 bytes and a subdomain 253.
-- A prefix is the start of a generated name, so it may end with a hyphen.
use Rattle.std.specs.Prelude.{ℕ, ◌-◌, ◌==◌, Bool, not, ◌||◌, nat_lt, List, [], ◌∷◌, ◌++◌, length, slice_index, Option, Some, None, if◌then◌else◌}
use Rattle.std.specs.Char.{is_ascii_digit, is_ascii_lowercase}
use Rattle.std.specs.List.{list_all, slice_split}
use Rattle.kube_types_formats.specs.declared.dns.Label.{Label}
use Rattle.kube_types_formats.specs.declared.dns.Label.TheVariants.{Rfc1123, Rfc1123Prefix, Rfc1035, Rfc1035Prefix}
use Rattle.kube_types_formats.specs.declared.fault.Fault.{Fault}
use Rattle.kube_types_formats.specs.declared.fault.Fault.TheVariants.{Empty, TooLong, NotLabel, FirstNotLetter, FirstNotAlphanumeric, LastNotAlphanumeric, EndNotAlphanumeric}
use Rattle.kube_types_formats.specs.Found.{faults_found, only, fault_line}
use Rattle.kube_types_formats.specs.Offsets.{is_one_of}

-- a lower case letter, a digit or a hyphen (45)
abbrev pub is_label_byte : ℕ → Bool
is_label_byte c = is_ascii_lowercase c || is_ascii_digit c || (c == 45)

-- the first and the last byte of a text, which isn't empty
abbrev pub first_byte : List ℕ → ℕ
first_byte text = slice_index text 0

abbrev pub last_byte : List ℕ → ℕ
last_byte text = slice_index text (length text - 1)

-- the one fault of a text that is empty, or else the others
abbrev pub unless_empty : List ℕ → List ℕ → List (List ℕ) → List (List ℕ)
unless_empty prefix text others = if length text == 0 then fault_line prefix Empty ∷ [] else others

-- the fault of an empty text as a label, if any
abbrev pub empty_fault : Label → Option Fault
empty_fault Rfc1123 = Some Empty
empty_fault Rfc1123Prefix = Some Empty
empty_fault Rfc1035 = Some Empty
empty_fault Rfc1035Prefix = None

-- the tests of a label's ends: there is no hyphen at
-- either end, and a label of RFC 1035 starts with a letter
unfoldable pub end_tests : Label → List ℕ → List (Bool × Fault)
end_tests Rfc1123 text = ((first_byte text == 45) || (last_byte text == 45), EndNotAlphanumeric) ∷ []
end_tests Rfc1123Prefix text = (first_byte text == 45, FirstNotAlphanumeric) ∷ []
end_tests Rfc1035 text =
    (not (is_ascii_lowercase (first_byte text)), FirstNotLetter)
    ∷ (last_byte text == 45, LastNotAlphanumeric)
    ∷ []
end_tests Rfc1035Prefix text = (not (is_ascii_lowercase (first_byte text)), FirstNotLetter) ∷ []

-- the faults of a label, in its length, its bytes and its ends
unfoldable pub label_faults : Label → List ℕ → List ℕ → List (List ℕ)
label_faults label prefix text = if length text == 0 then only prefix (empty_fault label) else
    (faults_found prefix (
    (nat_lt 63 (length text), TooLong 63 (length text))
    ∷ (not (list_all is_label_byte text), NotLabel)
    ∷ [])
    ++ faults_found prefix (end_tests label text))

-- the parts of a text, separated by dots (46)
abbrev pub parts_of : List ℕ → List (List ℕ)
parts_of text = slice_split (is_one_of (46 ∷ [])) text

-- the faults of each part before the last one by one rule, and of the last one by another
unfoldable pub faults_of_parts : (List ℕ → List (List ℕ)) → (List ℕ → List (List ℕ)) → List (List ℕ)
    → List (List ℕ)
faults_of_parts each last [] = []
faults_of_parts each last (part ∷ []) = last part
faults_of_parts each last (part ∷ (next ∷ more)) =
    each part ++ faults_of_parts each last (next ∷ more)

-- the faults of labels of RFC 1123 separated by dots,
-- the last of which is tested as the kind `last`
unfoldable pub subdomain_faults : Label → List ℕ → List ℕ → List (List ℕ)
subdomain_faults last prefix text = unless_empty prefix text (
    faults_found prefix ((nat_lt 253 (length text), TooLong 253 (length text)) ∷ [])
    ++ faults_of_parts (label_faults Rfc1123 prefix) (label_faults last prefix) (parts_of text))
