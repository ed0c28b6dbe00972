-- Trusted by the clauses of other library calls.
-- The versions that documents define, or their first fault: Kubernetes API reference,
-- CustomResourceDefinition v1 (CustomResourceDefinitionSpec, CustomResourceDefinitionVersion,
-- CustomResourceValidation); Kubernetes documentation, "Extend the Kubernetes API with
-- CustomResourceDefinitions"; API conventions, "Types (Kinds)" (lists). Pointers: RFC 6901.
use Rattle.std.specs.Prelude.{ℕ, suc, List, [], ◌∷◌, ◌++◌, ◌&&◌, Bool, false, not, Option, Some, None, is_some, option_and_then, Result, Ok, Err, codes, decimal, nat_eq, if◌then◌else◌}
use Rattle.std.specs.List.{ends_with, list_any}
use Rattle.std.specs.Option.{option_map_or}
use Rattle.std.specs.Str.{bytes_eq}
use Rattle.serde_json.specs.Data.{Data, Items, no_items, item}
use Rattle.serde_json.specs.Find.{get, as_bool, as_array, as_object}
use Rattle.kube_manifests_documents.specs.Faults.{◌>>=◌}
use Rattle.kube_manifests_documents.specs.Policies.{unknown_field}
use Rattle.kube_manifests_documents.specs.Versions.{Version, api_version, is_defined, is_of_version, or_reason, text_at}
use Rattle.kube_manifests_documents.specs.declared.crd_fault.CrdFault.{CrdFault}
use Rattle.kube_manifests_documents.specs.declared.crd_fault.CrdFault.TheVariants as fault

-- ---- where faults are

-- where a definition is: the index of its document and, if the document is a list, that of its item
pub record Location : Type 0 where
  pub document : ℕ
  pub item : Option ℕ

-- a fault, the index of its document, counted from 0, that of the definition there if the document
-- is a list, and a JSON Pointer to the fault in the document
pub record Fault : Type 0 where
  pub document : ℕ
  pub item : Option ℕ
  pub pointer : List ℕ
  pub fault : CrdFault

-- the pointer of the field at fault, relative to a definition or to one of its versions
abbrev pub field_pointer : CrdFault → List ℕ
field_pointer fault.NotACrd = codes ""
field_pointer fault.NoName = codes "/metadata/name"
field_pointer fault.NoGroup = codes "/spec/group"
field_pointer fault.NoKind = codes "/spec/names/kind"
field_pointer fault.NoVersions = codes "/spec/versions"
field_pointer fault.RepeatedKind = codes "/spec/names/kind"
field_pointer fault.NoVersionName = codes "/name"
field_pointer fault.NoServed = codes "/served"
field_pointer fault.NoSchema = codes "/schema/openAPIV3Schema"
field_pointer fault.SchemaNotAnObject = codes "/schema/openAPIV3Schema"
field_pointer fault.RepeatedVersion = codes "/name"

abbrev pub item_pointer : Option ℕ → List ℕ
item_pointer None = []
item_pointer (Some i) = codes "/items/" ++ decimal i

abbrev pub version_pointer : Option ℕ → List ℕ
version_pointer None = []
version_pointer (Some i) = codes "/spec/versions/" ++ decimal i

-- a fault of the definition at a location, or of one of its versions
abbrev pub fault_at : Location → Option ℕ → CrdFault → Fault
fault_at location version f = record {
  document = location.document;
  item = location.item;
  pointer = item_pointer location.item ++ (version_pointer version ++ field_pointer f);
  fault = f;
}

-- ---- one definition, and one of its versions

-- a string, if it isn't empty
abbrev pub unless_empty : List ℕ → Option (List ℕ)
unless_empty [] = None
unless_empty (c ∷ cs) = Some (c ∷ cs)

abbrev pub full_text_at : List ℕ → Data → Option (List ℕ)
full_text_at key d = option_and_then unless_empty (text_at key d)

abbrev pub has_text : List ℕ → List ℕ → Data → Bool
has_text key text d = option_map_or (λ t. bytes_eq t text) (text_at key d) false

-- whether a value is declared a definition
unfoldable pub is_crd : Data → Bool
is_crd d =
    has_text (codes "apiVersion") (codes "apiextensions.k8s.io/v1") d
    && has_text (codes "kind") (codes "CustomResourceDefinition") d

-- the fields of a `List`
abbrev pub list_fields : List (List ℕ)
list_fields = codes "apiVersion" ∷ codes "kind" ∷ codes "metadata" ∷ codes "items" ∷ []

-- whether a kind is that of a list. A `List` of v1 has no other fields, in which further objects could be hidden
abbrev pub is_list_kind : List ℕ → Data → Bool
is_list_kind t d =
    ends_with nat_eq t (codes "List")
    && not (bytes_eq t (codes "List") && is_some (unknown_field list_fields d))

-- the items of a list: its kind ends in `List`
unfoldable pub list_of : Data → Option Items
list_of d =
    if option_map_or (λ t. is_list_kind t d) (text_at (codes "kind") d) false
    then option_and_then as_array (get (codes "items") d) else None

abbrev pub unless_none : Items → Option Items
unless_none no_items = None
unless_none (item d ds) = Some (item d ds)

-- the fields of a definition
unfoldable pub name_of : Data → Option (List ℕ)
name_of d = option_and_then (full_text_at (codes "name")) (get (codes "metadata") d)

unfoldable pub group_of : Data → Option (List ℕ)
group_of d = option_and_then (full_text_at (codes "group")) (get (codes "spec") d)

unfoldable pub kind_of : Data → Option (List ℕ)
kind_of d =
    option_and_then (full_text_at (codes "kind"))
    (option_and_then (get (codes "names")) (get (codes "spec") d))

unfoldable pub entries_of : Data → Option Items
entries_of d = option_and_then as_array (option_and_then (get (codes "versions")) (get (codes "spec") d))

-- the fields that all versions of a definition share, and its versions
pub record Crd : Type 0 where
  pub group : List ℕ
  pub kind : List ℕ
  pub versions : Items

-- the fields of a value that is declared a definition, or its first fault
abbrev pub crd_fields : Data → Result Crd CrdFault
crd_fields d = do
  name ← or_reason fault.NoName (name_of d)
  group ← or_reason fault.NoGroup (group_of d)
  kind ← or_reason fault.NoKind (kind_of d)
  versions ← or_reason fault.NoVersions (option_and_then unless_none (entries_of d))
  Ok (record { group = group; kind = kind; versions = versions })

-- the definition in a value, or its first fault
unfoldable pub crd_of : Data → Result Crd CrdFault
crd_of d = if is_crd d then crd_fields d else Err fault.NotACrd

-- the schema of a version
unfoldable pub schema_of : Data → Option Data
schema_of d = option_and_then (get (codes "openAPIV3Schema")) (get (codes "schema") d)

-- the fields of one version; its schema is an object
pub record Entry : Type 0 where
  pub name : List ℕ
  pub served : Bool
  pub schema : Data

unfoldable pub entry_of : Data → Result Entry CrdFault
entry_of d = do
  name ← or_reason fault.NoVersionName (full_text_at (codes "name") d)
  served ← or_reason fault.NoServed (option_and_then as_bool (get (codes "served") d))
  schema ← or_reason fault.NoSchema (schema_of d)
  members ← or_reason fault.SchemaNotAnObject (as_object schema)
  Ok (record { name = name; served = served; schema = schema })

-- ---- documents one after another

-- applies a step to the items in turn, with the index of each; each step continues from the result
-- of the one before; stops at the first fault
unfoldable pub each : {V E : Type 0} → (ℕ → Data → V → Result V E) → ℕ → Items → V → Result V E
each step i no_items had = Ok had
each step i (item d ds) had = step i d had >>= each step (suc i) ds

-- the version for an entry of a definition
abbrev pub version_of : Crd → Entry → Version Data
version_of crd e = record {
  group = crd.group;
  kind = crd.kind;
  name = e.name;
  served = e.served;
  schema = e.schema;
}

-- the versions with one more added, unless an earlier one has its apiVersion and kind: two
-- versions of one definition must not have the same name
abbrev pub with_version : Location → ℕ → List (Version Data) → Version Data → Result (List (Version Data)) Fault
with_version location i had v =
    if list_any (is_of_version (api_version v) v.kind) had
    then Err (fault_at location (Some i) fault.RepeatedVersion) else Ok (had ++ v ∷ [])

abbrev pub with_entry : Location → Crd → ℕ → List (Version Data)
    → Result Entry CrdFault → Result (List (Version Data)) Fault
with_entry location crd i had (Err f) = Err (fault_at location (Some i) f)
with_entry location crd i had (Ok e) = with_version location i had (version_of crd e)

unfoldable pub add_version : Location → Crd → ℕ → Data → List (Version Data) → Result (List (Version Data)) Fault
add_version location crd i d had = with_entry location crd i had (entry_of d)

-- the versions with those of one definition added, unless an earlier one has its group and kind
abbrev pub with_crd : Location → List (Version Data) → Result Crd CrdFault → Result (List (Version Data)) Fault
with_crd location had (Err f) = Err (fault_at location None f)
with_crd location had (Ok crd) =
    if list_any (is_defined crd.group crd.kind) had then Err (fault_at location None fault.RepeatedKind)
    else each (add_version location crd) 0 crd.versions had

unfoldable pub add_crd : Location → Data → List (Version Data) → Result (List (Version Data)) Fault
add_crd location d had = with_crd location had (crd_of d)

abbrev pub add_item : ℕ → ℕ → Data → List (Version Data) → Result (List (Version Data)) Fault
add_item document i d had = add_crd (record { document = document; item = Some i }) d had

-- the versions with those of a document added: a definition, or a list of definitions
abbrev pub with_list : ℕ → Data → List (Version Data) → Option Items → Result (List (Version Data)) Fault
with_list document d had None = add_crd (record { document = document; item = None }) d had
with_list document d had (Some ds) = each (add_item document) 0 ds had

unfoldable pub add_document : ℕ → Data → List (Version Data) → Result (List (Version Data)) Fault
add_document document d had = with_list document d had (list_of d)

-- all versions of all documents, or the first fault
unfoldable pub versions_of : Items → Result (List (Version Data)) Fault
versions_of documents = each add_document 0 documents []
