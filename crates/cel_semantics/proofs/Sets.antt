-- Values as data form a set: two of them are equal in at most one way. So a
-- struct can hold such an equation in a ghost field.
use Rattle.std.proofs.Common.{◌≡◌, ℕ, ℤ, List, Bool, false, refl, sym, ap, ◌∙◌}
use Rattle.std.proofs.Math.Bool.{Bool-set}
use Rattle.std.proofs.Math.IntN.{ℤ_set}
use Rattle.std.proofs.Math.Nat.{ℕ_set}
use mathlib.Core.HLevel.{collapsible→set}
use mathlib.Core.List.{is_set}
use mathlib.Core.Sum.{⊎_set}
use Rattle.std.specs.Coded.{Coded-set}
use Rattle.cel_value.specs.Data.{KeyData, bool_key, int_key, uint_key, text_key, Data, null, bool, int, uint, double, text, bytes, list, map_of, timestamp, duration, optional, ip, cidr, quantity, semver, url, format, Items, no_items, item, Entries, no_entries, entry}
use Rattle.kube_types.specs.Addresses.{Address}
use Rattle.kube_types.specs.Prefixes.{Network}
use Rattle.kube_types_formats.specs.contracts.kind.FormatKind as format_kind
use Rattle.kube_types.specs.FormatKind.{FormatKind}
use Rattle.kube_types.specs.Quantity.Decimal.{Decimal}
use Rattle.kube_types.specs.Version.Shown.{Parts}
use Rattle.kube_types.specs.Url.Shown.{Shown}

-- a type that maps into a set and back is a set
pub retract_set : {A B : Type 0} (to : A → B) (from : B → A) → ((x : A) → from (to x) ≡ x) → IsSet B → IsSet A
retract_set to from back set = collapsible→set (λ x y p. sym (back x) ∙ ap from (ap to p) ∙ back y)
    (λ x y p q. ap (λ z. sym (back x) ∙ ap from z ∙ back y) (set (to x) (to y) (ap to p) (ap to q)))

pub List-set : {A : Type 0} → IsSet A → IsSet (List A)
List-set set = is_set set

-- values, items, entries and keys in one type
data Plain : Type 0 where
  p_null : Plain
  p_bool : Bool → Plain
  p_int : ℤ → Plain
  p_uint : ℕ → Plain
  p_double : Plain
  p_text : List ℕ → Plain
  p_bytes : List ℕ → Plain
  p_list : Plain → Plain
  p_map : Plain → Plain
  p_timestamp : ℤ → ℤ → Plain
  p_duration : ℤ → Plain
  p_optional : Plain → Plain
  p_ip : Address → Plain
  p_cidr : Network → Plain
  p_quantity : Decimal → Plain
  p_semver : Parts → Plain
  p_url : Shown → Plain
  p_format : FormatKind → Plain
  p_end : Plain
  p_item : Plain → Plain → Plain
  p_entry : Plain → Plain → Plain → Plain
  deriving IsSet as Plain-set

abbrev to_key : KeyData → Plain
to_key (bool_key b) = p_bool b
to_key (int_key n) = p_int n
to_key (uint_key n) = p_uint n
to_key (text_key s) = p_text s

abbrev mutual
  to_plain : Data → Plain
  to_plain null = p_null
  to_plain (bool b) = p_bool b
  to_plain (int n) = p_int n
  to_plain (uint n) = p_uint n
  to_plain double = p_double
  to_plain (text s) = p_text s
  to_plain (bytes s) = p_bytes s
  to_plain (list ds) = p_list (to_items ds)
  to_plain (map_of es) = p_map (to_entries es)
  to_plain (timestamp t offset) = p_timestamp t offset
  to_plain (duration n) = p_duration n
  to_plain (optional ds) = p_optional (to_items ds)
  to_plain (ip a) = p_ip a
  to_plain (cidr c) = p_cidr c
  to_plain (quantity q) = p_quantity q
  to_plain (semver v) = p_semver v
  to_plain (url u) = p_url u
  to_plain (format f) = p_format f

  to_items : Items → Plain
  to_items no_items = p_end
  to_items (item d ds) = p_item (to_plain d) (to_items ds)

  to_entries : Entries → Plain
  to_entries no_entries = p_end
  to_entries (entry k d es) = p_entry (to_key k) (to_plain d) (to_entries es)

-- the inverse: the value, items, entries and key of an element
abbrev back : Plain → Data × Items × Entries × KeyData
back p_null = (null, no_items, no_entries, bool_key false)
back (p_bool b) = (bool b, no_items, no_entries, bool_key b)
back (p_int n) = (int n, no_items, no_entries, int_key n)
back (p_uint n) = (uint n, no_items, no_entries, uint_key n)
back p_double = (double, no_items, no_entries, bool_key false)
back (p_text s) = (text s, no_items, no_entries, text_key s)
back (p_bytes s) = (bytes s, no_items, no_entries, bool_key false)
back (p_list p) = (list (back p).1, no_items, no_entries, bool_key false)
back (p_map p) = (map_of (back p).2, no_items, no_entries, bool_key false)
back (p_timestamp t offset) = (timestamp t offset, no_items, no_entries, bool_key false)
back (p_duration n) = (duration n, no_items, no_entries, bool_key false)
back (p_optional p) = (optional (back p).1, no_items, no_entries, bool_key false)
back (p_ip a) = (ip a, no_items, no_entries, bool_key false)
back (p_cidr c) = (cidr c, no_items, no_entries, bool_key false)
back (p_quantity q) = (quantity q, no_items, no_entries, bool_key false)
back (p_semver v) = (semver v, no_items, no_entries, bool_key false)
back (p_url u) = (url u, no_items, no_entries, bool_key false)
back (p_format f) = (format f, no_items, no_entries, bool_key false)
back p_end = (null, no_items, no_entries, bool_key false)
back (p_item p q) = (null, item (back p).0 (back q).1, no_entries, bool_key false)
back (p_entry k p q) = (null, no_items, entry (back k).3 (back p).0 (back q).2, bool_key false)

key_back : (k : KeyData) → (back (to_key k)).3 ≡ k
key_back (bool_key b) = refl
key_back (int_key n) = refl
key_back (uint_key n) = refl
key_back (text_key s) = refl

mutual
  plain_back : (d : Data) → (back (to_plain d)).0 ≡ d
  plain_back null = refl
  plain_back (bool b) = refl
  plain_back (int n) = refl
  plain_back (uint n) = refl
  plain_back double = refl
  plain_back (text s) = refl
  plain_back (bytes s) = refl
  plain_back (list ds) = ap list (items_back ds)
  plain_back (map_of es) = ap map_of (entries_back es)
  plain_back (timestamp t offset) = refl
  plain_back (duration n) = refl
  plain_back (optional ds) = ap optional (items_back ds)
  plain_back (ip a) = refl
  plain_back (cidr c) = refl
  plain_back (quantity q) = refl
  plain_back (semver v) = refl
  plain_back (url u) = refl
  plain_back (format f) = refl

  items_back : (ds : Items) → (back (to_items ds)).1 ≡ ds
  items_back no_items = refl
  items_back (item d ds) = λ i. item (plain_back d i) (items_back ds i)

  entries_back : (es : Entries) → (back (to_entries es)).2 ≡ es
  entries_back no_entries = refl
  entries_back (entry k d es) = λ i. entry (key_back k i) (plain_back d i) (entries_back es i)

text_set : IsSet (List ℕ)
text_set = List-set ℕ_set

address_set : IsSet Address
address_set = hlevel (⊎_set, text_set)

network_set : IsSet Network
network_set = hlevel (address_set, ℕ_set)

decimal_set : IsSet Decimal
decimal_set = hlevel ℤ_set

version_set : IsSet Parts
version_set = hlevel (ℕ_set, text_set)

shown_set : IsSet Shown
shown_set = hlevel (text_set, Bool-set)

format_set : IsSet FormatKind
format_set = Coded-set (format_kind.the_row).coded

plain_set : IsSet Plain
plain_set = Plain-set Bool-set ℤ_set ℕ_set text_set address_set network_set decimal_set version_set shown_set format_set

pub Data-set : IsSet Data
Data-set = retract_set to_plain (λ p. (back p).0) plain_back plain_set

pub KeyData-set : IsSet KeyData
KeyData-set = retract_set to_key (λ p. (back p).3) key_back plain_set
