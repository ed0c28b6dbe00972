-- Trusted by the headline.
-- When two values are equal, and how they compare (CEL language definition, "Equality",
-- "Ordering"; Kubernetes documentation, CEL libraries). Each value has a shape, in which an int
-- or a uint is represented by its number, a timestamp by its instant and a quantity by its
-- number. Two values are equal if their shapes are.
use Rattle.std.specs.Prelude.{ℕ, ℤ, pos, ◌&&◌, ◌==◌, List, [], ◌∷◌, Bool, true, false, if◌then◌else◌, Option, None, Some, nat_eq, nat_lt}
use Rattle.std.specs.declared.cmp.Ordering.{Ordering}
use Rattle.std.specs.Ordering.{int_eq, int_cmp, nat_cmp, eq_by_cmp, ordering_then}
use Rattle.std.specs.Cmp.Lexicographic.{slice_cmp, pointwise}
use Rattle.kube_types.specs.Addresses.{Address, four, six, family}
use Rattle.kube_types.specs.Formats.{name_of}
use Rattle.kube_types.specs.Quantity.Decimal.{Decimal}
use Rattle.kube_types.specs.Quantity.Normal.{normal_form}
use Rattle.kube_types.specs.Version.Shown.{Parts}
use Rattle.cel_value.specs.Data.{KeyData, Data, null, bool, int, uint, double, text, bytes, list, map_of, timestamp, duration, optional, ip, cidr, quantity, semver, url, format, Items, no_items, item, Entries, no_entries, entry}
use Rattle.cel_value.specs.Keys.{key_order}
use Rattle.cel_value.specs.declared.kind.Kind.{Kind}
use Rattle.cel_value.specs.declared.kind.Kind.TheVariants as kind

mutual
  -- a class, the numbers and the text of the value, and the shapes of its parts
  pub data Shape : Type 0 where
    shape_of : ℕ → List ℤ → List ℕ → Shapes → Shape

  pub data Shapes : Type 0 where
    no_shapes : Shapes
    shape_and : Shape → Shapes → Shapes
    entry_and : KeyData → Shape → Shapes → Shapes

abbrev pub bool_number : Bool → ℤ
bool_number true = pos 1
bool_number false = pos 0

abbrev pub leaf : ℕ → List ℤ → List ℕ → Shape
leaf k ns s = shape_of k ns s no_shapes

-- the mantissa and the scale of the number's normal form
abbrev pub amount : Decimal → List ℤ
amount q = (normal_form q).mantissa ∷ (normal_form q).scale ∷ []

-- the octets or the groups of an address
abbrev pub address_parts : Address → List ℕ
address_parts (four octets) = octets
address_parts (six groups) = groups

-- the three numbers and the pre-release of a version, and its build metadata
abbrev pub version_shape : Parts → Shape
version_shape v =
    shape_of 14 [] []
    (shape_and (leaf 0 (pos v.0 ∷ pos v.1 ∷ pos v.2 ∷ []) v.3) (shape_and (leaf 0 [] v.4) no_shapes))

abbrev mutual
  pub shape : Data → Shape
  shape null = leaf 0 [] []
  shape (bool b) = leaf 1 (bool_number b ∷ []) []
  shape (int n) = leaf 2 (n ∷ []) []
  shape (uint n) = leaf 2 (pos n ∷ []) []
  shape (text s) = leaf 3 [] s
  shape (bytes s) = leaf 4 [] s
  shape (timestamp t o) = leaf 5 (t ∷ []) []
  shape (duration n) = leaf 6 (n ∷ []) []
  shape double = leaf 7 [] []
  shape (quantity q) = leaf 8 (amount q) []
  shape (list ds) = shape_of 9 [] [] (shapes ds)
  shape (map_of es) = shape_of 10 [] [] (entry_shapes es)
  shape (optional ds) = shape_of 11 [] [] (shapes ds)
  shape (ip a) = leaf 12 (pos (family a) ∷ []) (address_parts a)
  shape (cidr c) = leaf 13 (pos (family c.ip) ∷ pos c.prefix ∷ []) (address_parts c.ip)
  shape (semver v) = version_shape v
  shape (url u) = leaf 15 (bool_number u.is_path ∷ []) u.text
  shape (format f) = leaf 16 [] (name_of f)

  pub shapes : Items → Shapes
  shapes no_items = no_shapes
  shapes (item d ds) = shape_and (shape d) (shapes ds)

  pub entry_shapes : Entries → Shapes
  entry_shapes no_entries = no_shapes
  entry_shapes (entry k d es) = entry_and k (shape d) (entry_shapes es)

abbrev mutual
  pub same_shape : Shape → Shape → Bool
  same_shape (shape_of k ns s p) (shape_of l ms t q) =
      (k == l) && (same_shapes p q && (pointwise int_eq ns ms && pointwise nat_eq s t))

  pub same_shapes : Shapes → Shapes → Bool
  same_shapes no_shapes no_shapes = true
  same_shapes (shape_and x p) (shape_and y q) = same_shape x y && same_shapes p q
  same_shapes (entry_and k x p) (entry_and l y q) =
      eq_by_cmp key_order k l && (same_shape x y && same_shapes p q)
  same_shapes _ _ = false

abbrev pub same : Data → Data → Bool
same a b = same_shape (shape a) (shape b)

-- the classes that have an order: 1 to 6, which are bools,
-- numbers, strings, bytes, timestamps and durations
abbrev pub is_ordered : ℕ → Bool
is_ordered k = nat_lt 0 k && nat_lt k 7

abbrev pub shape_order : Shape → Shape → Option Ordering
shape_order (shape_of k ns s p) (shape_of l ms t q) =
    if (k == l) && is_ordered k then Some (ordering_then (slice_cmp int_cmp ns ms) (slice_cmp nat_cmp s t))
    else None

abbrev pub comparison : Data → Data → Option Ordering
comparison a b = shape_order (shape a) (shape b)

-- the kinds whose values have an order
abbrev pub is_ordered_kind : Kind → Bool
is_ordered_kind kind.Bool = true
is_ordered_kind kind.Int = true
is_ordered_kind kind.UInt = true
is_ordered_kind kind.String = true
is_ordered_kind kind.Bytes = true
is_ordered_kind kind.Timestamp = true
is_ordered_kind kind.Duration = true
is_ordered_kind _ = false

-- the class of a shape
abbrev pub class_of : Shape → ℕ
class_of (shape_of k ns s p) = k

abbrev pub has_order : Data → Bool
has_order d = is_ordered (class_of (shape d))

abbrev mutual
  pub has_double : Data → Bool
  has_double double = true
  has_double (list ds) = items_have_double ds
  has_double (map_of es) = entries_have_double es
  has_double (optional ds) = items_have_double ds
  has_double _ = false

  pub items_have_double : Items → Bool
  items_have_double no_items = false
  items_have_double (item d ds) = if has_double d then true else items_have_double ds

  pub entries_have_double : Entries → Bool
  entries_have_double no_entries = false
  entries_have_double (entry k d es) = if has_double d then true else entries_have_double es
