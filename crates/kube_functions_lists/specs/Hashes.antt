-- Scaffolding: only proofs and private clauses cite it.
-- A hash of values: equal values have the same one. It reads bools, numbers, strings and bytes, and
-- the parts of lists, maps and optionals. Of other kinds it reads the class alone.
use Rattle.std.specs.Prelude.{ℕ, ◌+◌, ◌*◌, ◌%◌, ◌^◌, ℤ, List, [], ◌∷◌, ◌&&◌, Bool, nat_lt, unsigned_abs, if◌then◌else◌}
use Rattle.cel_value.specs.Data.{KeyData, Data}
use Rattle.cel_value.specs.Same.{Shape, shape_of, Shapes, no_shapes, shape_and, entry_and, shape}
use Rattle.kube_functions_lists.specs.Keyed.{key_data}

-- a hash of 64 bits, and that of one more number
unfoldable pub mixed : ℕ → ℕ → ℕ
mixed hash number = (((hash + number) % 2 ^ 64) * 11400714819323198485) % 2 ^ 64

abbrev pub with_bytes : ℕ → List ℕ → ℕ
with_bytes hash [] = hash
with_bytes hash (b ∷ bs) = with_bytes (mixed hash b) bs

abbrev pub with_numbers : ℕ → List ℤ → ℕ
with_numbers hash [] = hash
with_numbers hash (n ∷ ns) = with_numbers (mixed hash (unsigned_abs n)) ns

-- the classes of bools, numbers, strings and bytes
abbrev pub is_read : ℕ → Bool
is_read class = nat_lt 0 class && nat_lt class 5

-- the classes of lists, maps and optionals
abbrev pub has_parts : ℕ → Bool
has_parts class = nat_lt 8 class && nat_lt class 12

-- the hash of a class, of its numbers and its text, or of its parts
abbrev pub class_hash : ℕ → List ℤ → List ℕ → ℕ → ℕ
class_hash class numbers text parts =
    if is_read class then with_bytes (with_numbers class numbers) text
    else (if has_parts class then parts else class)

-- the hash of a shape without its parts
abbrev pub leaf_hash : Shape → ℕ
leaf_hash (shape_of class numbers text parts) = class_hash class numbers text class

abbrev pub key_hash : KeyData → ℕ
key_hash key = leaf_hash (shape (key_data key))

abbrev mutual
  pub shape_hash : Shape → ℕ
  shape_hash (shape_of class numbers text parts) = class_hash class numbers text (with_shapes class parts)

  pub with_shapes : ℕ → Shapes → ℕ
  with_shapes hash no_shapes = hash
  with_shapes hash (shape_and x p) = with_shapes (mixed hash (shape_hash x)) p
  with_shapes hash (entry_and k x p) = with_shapes (mixed (mixed hash (key_hash k)) (shape_hash x)) p

abbrev pub hash : Data → ℕ
hash d = shape_hash (shape d)
