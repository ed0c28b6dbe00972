-- Scaffolding: only proofs and private clauses cite it.
-- The parts of a list's items as rows.
use Rattle.std.specs.Prelude.{◌≡◌, ◌≤◌, ◌*◌, ◌++◌, ℕ, List, Bool, Option, length, map, take, true, zip}
use Rattle.serde_json.specs.Data as json
use Rattle.serde_json.specs.View.{view}
use Rattle.serde_json.specs.declared.value.Value.{Value as Json}
use Rattle.cel_demand.specs.Alike.{Alike, ListsAlike}
use Rattle.cel_demand.specs.Demand.{members_view}
use Rattle.cel_demand.specs.Part.{some_members}
use Rattle.cel_demand.specs.Places.{Entry}
use Rattle.cel_value.specs.Data.{map_of}
use Rattle.cel_value.specs.Rows.{row_maps}
use Rattle.cel_value.specs.Shared.{Shared}
use Rattle.cel_value.specs.View.{entries_view}
use Rattle.cel_value.specs.declared.value.Value.{Value}
use Rattle.kube_schema_values.specs.Conversion.{ConversionAccessors}
use Rattle.kube_schema_parts.specs.Parts.{value_at}

module _ {S : Type 0} (accessors : ConversionAccessors S) (n : ℕ) (node : Option S) (members : List Entry) where
  -- the first values, as many as rows, are alike to the rows in these members
  abbrev pub AreRowsOf : List Json → ℕ → Shared → Type 0
  AreRowsOf items count rows =
      (count ≤ length items) × (count * length rows.keys ≤ length rows.values)
      × ListsAlike (Alike (some_members (members_view members))) (row_maps rows.keys rows.values count)
      (map (λ v. value_at accessors n node (view v)) (take count items))

  -- some values were added behind the others; where that is done, they are a row that is alike to the value
  abbrev pub IsRowAdded : json.Data → Bool → Shared → Shared → Type 0
  IsRowAdded d done old new =
      (row : List Value) × (new.values ≡ old.values ++ row)
      × (done ≡ true → (length row ≡ length old.keys)
      × Alike (some_members (members_view members)) (map_of (entries_view (zip old.keys row))) (value_at accessors n node d))
