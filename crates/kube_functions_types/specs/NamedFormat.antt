-- Trusted by the headline.
-- Functions on named formats (Kubernetes documentation, "CEL in Kubernetes", format library;
-- `Format` in `k8s.io/apiserver/pkg/cel/library`).
use Rattle.std.specs.Prelude.{ℕ, List, [], ◌∷◌, codes, Option, find, Ok}
use Rattle.std.specs.Option.{option_map_or}
use Rattle.std.specs.Str.{bytes_eq}
use Rattle.kube_types.specs.Formats.{name_of, faults_of}
use Rattle.kube_types.specs.FormatKind.{FormatKind}
use Rattle.kube_types.specs.FormatKind.TheVariants.{Dns1123Label, Dns1035Label, Dns1035LabelPrefix, Dns1123LabelPrefix, Dns1123Subdomain, Dns1123SubdomainPrefix, QualifiedName, LabelValue, Uri, Uuid, Byte, Date, DateTime}
use Rattle.cel_value.specs.Data.{Data, null, text, optional, format, Items, no_items, item}
use Rattle.cel_semantics.specs.Outcome.{Outcome}
use Rattle.kube_functions_types.specs.Answers.{wrong_kind}
use Rattle.kube_functions_types.specs.Lists.{text_list}

abbrev pub all_kinds : List FormatKind
all_kinds =
    Dns1123Label ∷ Dns1035Label ∷ Dns1035LabelPrefix ∷ Dns1123LabelPrefix ∷ Dns1123Subdomain
    ∷ Dns1123SubdomainPrefix ∷ QualifiedName ∷ LabelValue ∷ Uri ∷ Uuid ∷ Byte ∷ Date ∷ DateTime ∷ []

-- the kind with a name
abbrev pub kind_named : List ℕ → Option FormatKind
kind_named name = find (λ kind. bytes_eq (name_of kind) name) all_kinds

-- `format.named`: the format with a name, or null if there is none
abbrev pub named_format : Data → Outcome
named_format (text s) = Ok (option_map_or format (kind_named s) null)
named_format _ = wrong_kind (codes "format.named")

-- the list of faults, or nothing if it is empty
abbrev pub held_faults : List (List ℕ) → Items
held_faults [] = no_items
held_faults (f ∷ fs) = item (text_list (f ∷ fs)) no_items

-- `validate`: an optional that holds the list of a string's
-- faults in a format, and is empty if there are none
abbrev pub validate : Data → Data → Outcome
validate (format kind) (text s) = Ok (optional (held_faults (faults_of kind s)))
validate _ _ = wrong_kind (codes "validate")
