-- Trusted by the clauses of other library calls.
-- The entries of a map in key order, as contracts see them.
use Rattle.std.specs.Prelude.{◌≡◌, List, refl}
use Rattle.cel_value.specs.declared.key.Key.{Key}
use Rattle.cel_value.specs.declared.value.Value.{Value}

abbrev pub Entry : Type 0
Entry = Key × Value

pub record Listed : Type 0 where
  pub entries : List Entry

abbrev pub listed_to : Listed → List Entry
listed_to l = l.entries

abbrev pub listed_from : List Entry → Listed
listed_from es = record { entries = es }

pub listed_back : (l : Listed) → listed_from (listed_to l) ≡ l
listed_back l = refl
