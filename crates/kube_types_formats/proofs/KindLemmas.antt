-- Each kind of format is in the table of kinds, and is found there by its name.
use Rattle.std.proofs.Common.{◌≡◌, ℕ, ◌<◌, List, get_or, Option, Some, refl, sym, ap, ◌∙◌, lit<}
use Rattle.std.specs.List.{find}
use Rattle.std.specs.Str.{bytes_eq}
use Rattle.kube_types_formats.specs.declared.kind.FormatKind.{FormatKind}
use Rattle.kube_types_formats.specs.declared.kind.FormatKind.TheVariants.{Dns1123Label, Dns1035Label, Dns1035LabelPrefix, Dns1123LabelPrefix, Dns1123Subdomain, Dns1123SubdomainPrefix, QualifiedName, LabelValue, Uri, Uuid, Byte, Date, DateTime}
use Rattle.kube_types_formats.specs.declared.kind.TheConstants.{KINDS}
use Rattle.kube_types_formats.specs.Formats.{name_of}

pub none_named : (name : List ℕ) → ((k : ℕ) (d : FormatKind) → k < 13 → name_of (get_or KINDS k d) ≡ name → ⊥) → (kind : FormatKind) → name_of kind ≡ name → ⊥
none_named name h Dns1123Label = h 0 Dns1123Label (lit< tt)
none_named name h Dns1035Label = h 1 Dns1123Label (lit< tt)
none_named name h Dns1035LabelPrefix = h 2 Dns1123Label (lit< tt)
none_named name h Dns1123LabelPrefix = h 3 Dns1123Label (lit< tt)
none_named name h Dns1123Subdomain = h 4 Dns1123Label (lit< tt)
none_named name h Dns1123SubdomainPrefix = h 5 Dns1123Label (lit< tt)
none_named name h QualifiedName = h 6 Dns1123Label (lit< tt)
none_named name h LabelValue = h 7 Dns1123Label (lit< tt)
none_named name h Uri = h 8 Dns1123Label (lit< tt)
none_named name h Uuid = h 9 Dns1123Label (lit< tt)
none_named name h Byte = h 10 Dns1123Label (lit< tt)
none_named name h Date = h 11 Dns1123Label (lit< tt)
none_named name h DateTime = h 12 Dns1123Label (lit< tt)

-- a kind is found by its name
abbrev kind_named : List ℕ → Option FormatKind
kind_named name = find (λ kind. bytes_eq (name_of kind) name) KINDS

finds_kind : (kind : FormatKind) → kind_named (name_of kind) ≡ Some kind
unfolding name_of
finds_kind Dns1123Label = refl
finds_kind Dns1035Label = refl
finds_kind Dns1035LabelPrefix = refl
finds_kind Dns1123LabelPrefix = refl
finds_kind Dns1123Subdomain = refl
finds_kind Dns1123SubdomainPrefix = refl
finds_kind QualifiedName = refl
finds_kind LabelValue = refl
finds_kind Uri = refl
finds_kind Uuid = refl
finds_kind Byte = refl
finds_kind Date = refl
finds_kind DateTime = refl

pub names_apart : (first second : FormatKind) → name_of first ≡ name_of second → first ≡ second
names_apart first second e =
    let same : Some first ≡ Some second = sym (finds_kind first) ∙ (ap kind_named e ∙ finds_kind second) in
    cc
