-- Scaffolding: only proofs and private clauses cite it.
-- What is known of the values of which a test is true: the keys of those that can be keys, and
-- others by their hashes.
use Rattle.std.specs.Prelude.{◌≡◌, ◌||◌, ℕ, Bool, true, List, Option, Some, None, is_some, map}
use Rattle.std.specs.Borrow.{Bor}
use Rattle.std.specs.BTreeMap.{BTreeMap, get}
use Rattle.std.specs.Ordering.{nat_cmp}
use Rattle.cel_value.specs.Data.{Data}
use Rattle.cel_value.specs.Same.{same}
use Rattle.cel_value.specs.View.{view}
use Rattle.cel_value.specs.declared.value.Value.{Value}
use Rattle.cel_semantics.specs.Members.{key_of}
use Rattle.kube_functions_lists.specs.Hashes.{hash}
use Rattle.kube_functions_lists.specs.Keyed.{HasKeysOf}
use Rattle.kube_functions_lists.specs.Sets.{is_in}
use Rattle.kube_functions_lists.specs.declared.keyed.Known.{Known}

abbrev pub ByHash : Type 0
ByHash = BTreeMap ℕ (Bor Value)

abbrev pub held_at : ByHash → ℕ → Option (Bor Value)
held_at m h = get nat_cmp m h

-- the test is true of each value that is held
abbrev pub AreTrue : ByHash → (Data → Bool) → Type 0
AreTrue m test = (h : ℕ) (v : Bor Value) → held_at m h ≡ Some v → test (view v.now) ≡ true

-- if the test is true of a value that can't be a key, a value is held at its hash
abbrev pub HasHashesOf : ByHash → (Data → Bool) → Type 0
HasHashesOf m test = (d : Data) → key_of d ≡ None → test d ≡ true → is_some (held_at m (hash d)) ≡ true

abbrev pub Knows : Known → (Data → Bool) → Type 0
Knows known test = HasKeysOf known.keys test × AreTrue known.others test × HasHashesOf known.others test

-- is a value among these values?
abbrev pub among : List Value → Data → Bool
among items d = is_in (map view items) d

-- the test, and equality with one more value
abbrev pub or_same : (Data → Bool) → Data → Data → Bool
or_same test d e = test e || same e d
