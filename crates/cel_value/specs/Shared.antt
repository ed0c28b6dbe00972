-- Trusted by the clauses of other library calls.
-- The entries of a map that shares its keys, as contracts see them: the keys, and the values at the first of them.
use Rattle.std.specs.Prelude.{◌≡◌, List, refl, zip}
use Rattle.cel_value.specs.Listed.{Entry}
use Rattle.cel_value.specs.declared.key.Key.{Key}
use Rattle.cel_value.specs.declared.value.Value.{Value}

pub record Shared : Type 0 where
  pub keys : List Key
  pub values : List Value

abbrev pub Columns : Type 0
Columns = List Key × List Value

abbrev pub shared_to : Shared → Columns
shared_to s = (s.keys, s.values)

abbrev pub shared_from : Columns → Shared
shared_from p = record { keys = p.0; values = p.1 }

pub shared_back : (s : Shared) → shared_from (shared_to s) ≡ s
shared_back s = refl

-- each key that has a value, with it
abbrev pub shared_entries : Shared → List Entry
shared_entries s = zip s.keys s.values
