-- Trusted by the headline.
-- Qualified names and label values. Source: the Kubernetes page
-- "Labels and Selectors", section "Syntax and character set": an
-- optional DNS subdomain and a slash, then a name of at most 63 bytes.
use Rattle.std.specs.Prelude.{ℕ, ◌+◌, ◌==◌, Bool, not, ◌||◌, nat_lt, List, [], ◌∷◌, ◌++◌, length, take, drop, codes, Option, Some, None, if◌then◌else◌}
use Rattle.std.specs.Char.{is_ascii_alphanumeric}
use Rattle.std.specs.List.{list_all}
use Rattle.kube_types_formats.specs.declared.dns.Label.TheVariants.{Rfc1123}
use Rattle.kube_types_formats.specs.declared.fault.Fault.TheVariants.{TooLong, NotName, FirstNotAlphanumeric, LastNotAlphanumeric, EmptyPrefix}
use Rattle.kube_types_formats.specs.Found.{faults_found, fault_line}
use Rattle.kube_types_formats.specs.Labels.{first_byte, last_byte, unless_empty, subdomain_faults}
use Rattle.kube_types_formats.specs.Offsets.{last_offset}

-- a letter, a digit, a hyphen (45), an underscore (95) or a dot (46)
abbrev pub is_name_byte : ℕ → Bool
is_name_byte c = is_ascii_alphanumeric c || (c == 45) || (c == 95) || (c == 46)

unfoldable pub name_faults : List ℕ → List ℕ → List (List ℕ)
name_faults prefix text = unless_empty prefix text (faults_found prefix (
    (nat_lt 63 (length text), TooLong 63 (length text))
    ∷ (not (list_all is_name_byte text), NotName)
    ∷ (not (is_ascii_alphanumeric (first_byte text)), FirstNotAlphanumeric)
    ∷ (not (is_ascii_alphanumeric (last_byte text)), LastNotAlphanumeric)
    ∷ []))

-- the faults of a label value, which may be empty
unfoldable pub label_value_faults : List ℕ → List (List ℕ)
label_value_faults text = if length text == 0 then [] else name_faults [] text

-- the faults of the part before the slash
unfoldable pub name_prefix_faults : List ℕ → List (List ℕ)
name_prefix_faults prefix =
    if length prefix == 0 then fault_line [] EmptyPrefix ∷ []
    else subdomain_faults Rfc1123 (codes "prefix: ") prefix

-- the faults of a text that is split at the offset of its last slash (47)
unfoldable pub faults_around : Option ℕ → List ℕ → List (List ℕ)
faults_around None text = name_faults [] text
faults_around (Some slash) text =
    name_prefix_faults (take slash text) ++ name_faults (codes "name: ") (drop (slash + 1) text)

unfoldable pub qualified_name_faults : List ℕ → List (List ℕ)
qualified_name_faults text =
    unless_empty [] text (faults_around (last_offset (47 ∷ []) text) text)
