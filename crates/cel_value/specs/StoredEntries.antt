-- Trusted by the clauses of other library calls.
-- The entries of a map as they are stored: the first, and the others in key order, of which the last may be in a tree.
use Rattle.std.specs.Prelude.{◌≡◌, ◌≤◌, ℕ, zero, suc, List, [], ◌∷◌, Option, Some, None, Result, Ok, Err, length}
use Rattle.std.specs.Global.{Box}
use Rattle.std.specs.List.Sorted.{IsStrictlySortedBy}
use Rattle.std.specs.BTreeMap.{BTreeMap}
use Rattle.std.specs.Map.{keys_of}
use Rattle.std.specs.Ordering.{match_ordering}
use Rattle.cel_value.specs.Keys.{key_cmp}
use Rattle.cel_value.specs.Listed.{Entry}
use Rattle.cel_value.specs.declared.key.Key.{Key}
use Rattle.cel_value.specs.declared.value.Value.{Value}

abbrev pub AreSorted : List Entry → Type 0
AreSorted es = IsStrictlySortedBy key_cmp (keys_of es)

abbrev pub all_entries : Option Entry → List Entry → List Entry
all_entries None es = []
all_entries (Some e) es = e ∷ es

-- there are no others where there is no first one
abbrev pub AreStored : Option Entry → List Entry → Type 0
AreStored None es = es ≡ []
AreStored (Some e) es = AreSorted (e ∷ es)

-- as many as the vector may have
abbrev pub AreFew : List Entry → Type 0
AreFew es = length es ≤ 32

abbrev pub one_further : Result ℕ ℕ → Result ℕ ℕ
one_further (Ok i) = Ok (suc i)
one_further (Err i) = Err (suc i)

-- where a key is, or else where it belongs
abbrev pub place_of : Key → List Entry → Result ℕ ℕ
place_of k [] = Err 0
place_of k (e ∷ es) = match_ordering (key_cmp k e.0) (Err 0) (Ok 0) (one_further (place_of k es))

abbrev pub tree_entries : Option (Box (BTreeMap Key Value)) → List Entry
tree_entries None = []
tree_entries (Some tree) = tree.value.entries

-- the entries with another value at an index
abbrev pub with_value_at : ℕ → Value → List Entry → List Entry
with_value_at i v [] = []
with_value_at zero v (e ∷ es) = (e.0, v) ∷ es
with_value_at (suc i) v (e ∷ es) = e ∷ with_value_at i v es
