-- Scaffolding: only proofs and private clauses cite it.
-- Sets of the keys of values. Bools, numbers and strings
-- can be keys of maps, and two of them are equal if their keys are.
use Rattle.std.specs.Prelude.{◌≡◌, Bool}
use Rattle.std.specs.BTreeSet.{BTreeSet, contains}
use Rattle.std.specs.declared.cmp.Ordering.{Ordering}
use Rattle.cel_value.specs.Data.{KeyData, bool_key, int_key, uint_key, text_key, Data, bool, int, uint, text}
use Rattle.cel_value.specs.Keys.{key_view, key_order}
use Rattle.cel_value.specs.declared.key.Key.{Key}

-- the value of a key
abbrev pub key_data : KeyData → Data
key_data (bool_key b) = bool b
key_data (int_key n) = int n
key_data (uint_key n) = uint n
key_data (text_key s) = text s

abbrev pub key_cmp : Key → Key → Ordering
key_cmp a b = key_order (key_view a) (key_view b)

abbrev pub has_key : BTreeSet Key → Key → Bool
has_key s k = contains key_cmp s k

-- a key is in the set exactly if the test is true of its value
abbrev pub HasKeysOf : BTreeSet Key → (Data → Bool) → Type 0
HasKeysOf s test = (k : Key) → has_key s k ≡ test (key_data (key_view k))
