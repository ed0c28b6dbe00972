-- Trusted by laws alone.
-- When one value holds all that another holds, at the same paths.
use Rattle.std.specs.Prelude.{◌≡◌, ℕ, List, [], ◌∷◌, Option, Some, option_map, option_and_then}
use Rattle.serde_json.specs.Data.{Data, null, boolean, number, string, array, object}
use Rattle.serde_json.specs.Find.{get, at}
use Rattle.serde_json.specs.Events.{items_len}

pub data Step : Type 0 where
  key : List ℕ → Step
  index : ℕ → Step

-- the value at the end of a path
unfoldable pub follow : List Step → Data → Option Data
follow [] d = Some d
follow (key k ∷ ps) d = option_and_then (follow ps) (get k d)
follow (index i ∷ ps) d = option_and_then (follow ps) (at i d)

-- what is compared of a value without its parts: a scalar whole,
-- the number of a list's items, or only that it is an object
pub data Surface : Type 0 where
  whole : Data → Surface
  list_of : ℕ → Surface
  members : Surface

unfoldable pub surface : Data → Surface
surface null = whole null
surface (boolean b) = whole (boolean b)
surface (number n) = whole (number n)
surface (string t) = whole (string t)
surface (array ds) = list_of (items_len ds)
surface (object ms) = members

-- each path of the old value leads to the same surface
-- in the new one; only objects may have more members
pub record Keeps (old new : Data) : Type 0 where
  pub kept : (path : List Step) (d : Data) → follow path old ≡ Some d
      → option_map surface (follow path new) ≡ Some (surface d)
