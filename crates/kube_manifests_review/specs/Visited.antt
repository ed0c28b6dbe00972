-- Trusted by laws alone.
-- The schemas within a schema that a walk over an object visits, and the JSON Pointer of each. The
-- walk is that of the rules: Kubernetes documentation, "Validation rules" (a rule is scoped to the
-- part of the object where it stands).
use Rattle.std.specs.Prelude.{◌≡◌, ◌≤◌, ℕ, List, [], ◌∷◌, length, Some, None, codes}
use Rattle.kube_schema.specs.RulesRaw.{raw_steps}
use Rattle.kube_schema.specs.Step.{Step, property, item, additional_property, branch, keyword}
use Rattle.kube_schema.specs.Visit.{Visit, goes, root_visit}
use Rattle.kube_schema.specs.Walk.{leads}
use Rattle.kube_manifests_review.specs.Locations.{SchemaLocation}
use Rattle.kube_manifests_documents.specs.Pointers.{index_pointer, key_pointer, keyword_pointer}
use Rattle.serde_json.specs.Data.{Data, null, boolean, number, string, array, object, Items, no_items, item as item_and, Members, no_members, member}
use Rattle.serde_json.specs.Find.{get_member}

-- ---- schemas with no key twice, as every value that was read

abbrev mutual
  pub KeysOnce : Data → Type 0
  KeysOnce null = Unit {0}
  KeysOnce (boolean b) = Unit {0}
  KeysOnce (number n) = Unit {0}
  KeysOnce (string s) = Unit {0}
  KeysOnce (array ds) = KeysOnceInItems ds
  KeysOnce (object ms) = KeysOnceInMembers ms

  pub KeysOnceInItems : Items → Type 0
  KeysOnceInItems no_items = Unit {0}
  KeysOnceInItems (item_and d ds) = KeysOnce d × KeysOnceInItems ds

  -- no later member has the key of an earlier one
  pub KeysOnceInMembers : Members → Type 0
  KeysOnceInMembers no_members = Unit {0}
  KeysOnceInMembers (member k d ms) = (get_member k ms ≡ None) × KeysOnce d × KeysOnceInMembers ms

-- ---- where steps lead

-- the pointer of the schema that a step leads to, from the pointer of the schema where it begins
abbrev pub pointer_after : List ℕ → Step → List ℕ
pointer_after p (property k) = key_pointer (keyword_pointer p (codes "properties")) k
pointer_after p (item i) = keyword_pointer p (codes "items")
pointer_after p (additional_property k) = keyword_pointer p (codes "additionalProperties")
pointer_after p (branch kind i) = index_pointer (keyword_pointer p (keyword kind)) i

unfoldable pub pointer_behind : List ℕ → List Step → List ℕ
pointer_behind p [] = p
pointer_behind p (s ∷ steps) = pointer_behind (pointer_after p s) steps

-- a walk over some value, with the schema at this pointer, visits the schema of a location: at most
-- n steps lead there
pub record IsVisited (n : ℕ) (p : List ℕ) (schema : Data) (l : SchemaLocation) : Type 0 where
  pub value : Data
  pub steps : List Step
  pub short : length steps ≤ n
  pub visit : Visit Data
  pub led : leads (goes raw_steps) steps (root_visit schema value None None) ≡ Some visit
  pub schema_is : visit.node ≡ l.schema
  pub pointer_is : pointer_behind p steps ≡ l.pointer
