-- Trusted by the clauses of kubecel.
-- The first number of kind double in an object, with its path, as paths of errors are written: members
-- in the order of their names, items in their order. A number is a double if it is no integer of 64
-- bits. Source: Kubernetes documentation, "Validation rules" (types); this project's own paths.
use Rattle.kubecel_check.specs.declared.doubles.Double.{Double}
use Rattle.serde_json.specs.Data.{Num, Data, null, boolean, number, string, array, object, Items, no_items, item, Members, no_members, member}
use Rattle.serde_json.specs.Find.{is_float}
use Rattle.serde_json.specs.Read.{read}
use Rattle.std.specs.Prelude.{◌≡◌, ℕ, suc, List, [], ◌∷◌, ◌++◌, Option, Some, None, if◌then◌else◌, codes, decimal, string_bytes}

-- the path of a member, and that of an item
abbrev pub member_path : List ℕ → List ℕ → List ℕ
member_path [] key = key
member_path (b ∷ bs) key = (b ∷ bs) ++ (codes "." ++ key)

abbrev pub item_path : List ℕ → ℕ → List ℕ
item_path path index = path ++ (codes "[" ++ (decimal index ++ codes "]"))

-- the first of two that is there
abbrev pub first_or : {A : Type 0} → Option A → Option A → Option A
first_or None other = other
first_or (Some a) other = Some a

abbrev mutual
  -- in a value at this path
  pub first_double : List ℕ → Data → Option (List ℕ × Num)
  first_double path null = None
  first_double path (boolean b) = None
  first_double path (number n) = if is_float n then Some (path, n) else None
  first_double path (string s) = None
  first_double path (array ds) = first_in_items path 0 ds
  first_double path (object ms) = first_in_members path ms

  -- in the items from the i-th on
  pub first_in_items : List ℕ → ℕ → Items → Option (List ℕ × Num)
  first_in_items path i no_items = None
  first_in_items path i (item d ds) = first_or (first_double (item_path path i) d) (first_in_items path (suc i) ds)

  pub first_in_members : List ℕ → Members → Option (List ℕ × Num)
  first_in_members path no_members = None
  first_in_members path (member k d ms) = first_or (first_double (member_path path k) d) (first_in_members path ms)

-- the same as the code has it: the path, and a text that reads as this number
abbrev pub IsDouble : Option (List ℕ × Num) → Option Double → Type 0
IsDouble None None = Unit {0}
IsDouble None (Some d) = ⊥
IsDouble (Some x) None = ⊥
IsDouble (Some x) (Some d) = (string_bytes d.path ≡ x.0) × (read (string_bytes d.text) ≡ Some (number x.1))
