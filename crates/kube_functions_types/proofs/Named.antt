-- Finding a format by its name.
use Rattle.std.proofs.Common.{◌≡◌, ℕ, List, [], ◌∷◌, Bool, true, false, cond, Option, Some, None, option_map, refl, sym, ap, ◌∙◌}
use Rattle.std.specs.Prelude.{◌≢◌, find, MatchOption}
use Rattle.std.specs.Str.{bytes_eq}
use Rattle.std.proofs.lemmas.Slice.Eq.{bytes_eq-Decides}
use Rattle.kube_types.specs.Formats.{name_of, kind_of}
use Rattle.kube_types.specs.KubeFormat.{KubeFormat}
use Rattle.kube_types.specs.FormatKind.{FormatKind}
use Rattle.kube_types.specs.FormatKind.TheVariants.{Dns1123Label, Dns1035Label, Dns1035LabelPrefix, Dns1123LabelPrefix, Dns1123Subdomain, Dns1123SubdomainPrefix, QualifiedName, LabelValue, Uri, Uuid, Byte, Date, DateTime}
use Rattle.kube_functions_types.specs.NamedFormat.{all_kinds, kind_named}

abbrev has_name : List ℕ → FormatKind → Bool
has_name name kind = bytes_eq (name_of kind) name

is_other : (b : Bool) → (b ≡ true → ⊥) → b ≡ false
is_other true h = absurd (h refl)
is_other false h = refl

other_name : (name : List ℕ) (kind : FormatKind) → name_of kind ≢ name → has_name name kind ≡ false
other_name name kind h = is_other (has_name name kind) (λ e. h ((bytes_eq-Decides (name_of kind) name).0 e))

skipped : (b : Bool) (kind : FormatKind) (o : Option FormatKind) → b ≡ false → o ≡ None → cond b (Some kind) o ≡ None
skipped true kind o h k = cc
skipped false kind o h k = k

none_in : (name : List ℕ) (kinds : List FormatKind) → ((kind : FormatKind) → name_of kind ≢ name) → find (has_name name) kinds ≡ None
none_in name [] h = refl
none_in name (kind ∷ kinds) h = skipped (has_name name kind) kind (find (has_name name) kinds) (other_name name kind (h kind)) (none_in name kinds h)

own_name : (kind : FormatKind) → find (has_name (name_of kind)) all_kinds ≡ Some kind
unfolding name_of
own_name Dns1123Label = refl
own_name Dns1035Label = refl
own_name Dns1035LabelPrefix = refl
own_name Dns1123LabelPrefix = refl
own_name Dns1123Subdomain = refl
own_name Dns1123SubdomainPrefix = refl
own_name QualifiedName = refl
own_name LabelValue = refl
own_name Uri = refl
own_name Uuid = refl
own_name Byte = refl
own_name Date = refl
own_name DateTime = refl

-- a format found by its name is of the kind of that name, and none is found if no kind has it
pub kind_found : (r : Option KubeFormat) (name : List ℕ) → MatchOption r ((kind : FormatKind) → name_of kind ≢ name) (λ format. name_of (kind_of format) ≡ name)
    → option_map kind_of r ≡ kind_named name
kind_found None name h = sym (none_in name all_kinds h)
kind_found (Some format) name h = sym (own_name (kind_of format)) ∙ ap (λ n. find (has_name n) all_kinds) h
