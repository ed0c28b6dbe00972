-- Trusted by the headline.
-- The parts of a JSON value: its keys in order, and its indices.
use Rattle.serde_json.specs.Data.{Data, no_items, Members, no_members, member}
use Rattle.serde_json.specs.Events.{items_len}
use Rattle.serde_json.specs.Find.{as_array, as_object}
use Rattle.std.specs.Cmp.Lexicographic.{slice_cmp}
use Rattle.std.specs.Ordering.{nat_cmp, match_ordering}
use Rattle.std.specs.Prelude.{ℕ, zero, suc, List, [], ◌∷◌, ◌++◌, Option, option_and_then, unwrap_or}

abbrev pub keys_in : Members → List (List ℕ)
keys_in no_members = []
keys_in (member key d ms) = key ∷ keys_in ms

-- the keys of an optional value; none if it isn't an object
unfoldable pub keys_at : Option Data → List (List ℕ)
keys_at value = keys_in (unwrap_or (option_and_then as_object value) no_members)

-- the number of items of an optional value; 0 if it isn't a list
unfoldable pub count_at : Option Data → ℕ
count_at value = items_len (unwrap_or (option_and_then as_array value) no_items)

-- inserts a key into keys sorted by their bytes, unless it is there
abbrev pub insert_key : List ℕ → List (List ℕ) → List (List ℕ)
insert_key k [] = k ∷ []
insert_key k (l ∷ ls) = match_ordering (slice_cmp nat_cmp k l) (k ∷ l ∷ ls) (l ∷ ls) (l ∷ insert_key k ls)

abbrev pub in_order : List (List ℕ) → List (List ℕ)
in_order [] = []
in_order (k ∷ ks) = insert_key k (in_order ks)

-- the numbers below n, ascending
unfoldable pub up_to : ℕ → List ℕ
up_to zero = []
up_to (suc n) = up_to n ++ n ∷ []
