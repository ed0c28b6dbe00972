-- Scaffolding: only proofs and private clauses cite it.
-- Conversion by a node of a schema if there is one, and
-- plainly if not; and the parts of members converted so far.
use Rattle.std.specs.Prelude.{◌≡◌, ℕ, List, All, map, Bool, false, Option, Some, None, option_and_then}
use Rattle.std.specs.Option.{option_map_or}
use Rattle.serde_json.specs.Data as json
use Rattle.cel_demand.specs.Alike.{MembersAlike}
use Rattle.cel_demand.specs.Part.{Members}
use Rattle.cel_demand.specs.Places.{Entry, name_of}
use Rattle.cel_demand.specs.declared.demand.Demand.{Demand}
use Rattle.cel_demand.specs.declared.demand.Demand.TheVariants as demand
use Rattle.cel_value.specs.Data.{Data, Entries, null, bool, text_key}
use Rattle.cel_value.specs.Find.{find}
use Rattle.cel_value.specs.declared.key.Key.{Key}
use Rattle.cel_value.specs.declared.key.Key.TheVariants as key
use Rattle.kube_schema_values.specs.Conversion.{ConversionAccessors, key_in, member_node, object_by, to_cel}
use Rattle.kube_schema_values.specs.Escape.{escape}
use Rattle.kube_schema_values.specs.Plain.{plain, plain_entries, plain_number}

module _ {S : Type 0} (accessors : ConversionAccessors S) where
  -- the node of list items
  abbrev pub items_node : Option S → Option S
  items_node node = option_and_then accessors.items node

  -- the node of a member
  abbrev pub node_of_member : Option S → List ℕ → Option S
  node_of_member node k = option_and_then (λ s. member_node accessors s k) node

  abbrev pub is_map_at : Option S → Bool
  is_map_at node = option_map_or accessors.is_map node false

  abbrev pub is_embedded_at : Option S → Bool
  is_embedded_at node = option_map_or accessors.is_embedded node false

  -- the key of a member
  abbrev pub key_at : Option S → List ℕ → List ℕ
  key_at node k = key_in (is_map_at node) k

  -- the value converted by this number of levels of nodes
  abbrev pub value_at : ℕ → Option S → json.Data → Data
  value_at n node d = option_map_or (λ s. to_cel accessors n s d) node (plain d)

  -- the entries of an object, whose members are converted by this number of levels of nodes
  abbrev pub entries_at : ℕ → Option S → json.Members → Entries
  entries_at n node ms =
      option_map_or (λ s. object_by accessors (to_cel accessors n) s ms) node (plain_entries ms)

-- the first entries are alike to the second in these members, and have no others
abbrev pub AreParts : Members → Entries → Entries → Type 0
AreParts ms es fs = MembersAlike ms (λ x. find (text_key x) es) (λ x. find (text_key x) fs)
    × ((x : List ℕ) → find (text_key x) fs ≡ None → find (text_key x) es ≡ None)

-- the value of null, of a bool or of a number, which is the same by every node
abbrev pub scalar_of : json.Data → Option Data
scalar_of json.null = Some null
scalar_of (json.boolean b) = Some (bool b)
scalar_of (json.number n) = Some (plain_number n)
scalar_of (json.string s) = None
scalar_of (json.array ds) = None
scalar_of (json.object ms) = None

-- the name of each member is its own escape
abbrev pub AreOwnNames : List Entry → Type 0
AreOwnNames es = All (λ e. escape (name_of e) ≡ name_of e) es

-- the same of the members that are demanded, if some are
abbrev pub HasOwnNames : Demand → Type 0
HasOwnNames d = (ms : _) → d ≡ demand.Members ms → AreOwnNames ms.items

-- the names of members, as keys of a map
abbrev pub name_keys : List Entry → List Key
name_keys es = map (λ e. key.String (name_of e)) es

-- they are those of the members that are demanded, each its own escape
abbrev pub AreNamesIn : Demand → List Key → Type 0
AreNamesIn d ks = (ms : _) → d ≡ demand.Members ms → (ks ≡ name_keys ms.items) × AreOwnNames ms.items
