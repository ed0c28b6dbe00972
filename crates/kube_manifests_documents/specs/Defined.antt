-- Trusted by the clauses of other library calls.
-- Views of what is read from definitions: fields, faults, and the list of versions, in which each is found by its
-- apiVersion or group and its kind.
use Rattle.std.specs.Prelude.{◌≡◌, ℕ, List, map, Result, Ok, Err, string_bytes}
use Rattle.serde_json.specs.Data.{Data}
use Rattle.serde_json.specs.View.{view, items_view}
use Rattle.kube_manifests_documents.specs.declared.crd_fault.CrdError.{CrdError}
use Rattle.kube_manifests_documents.specs.declared.crd_fault.CrdFault.{CrdFault}
use Rattle.kube_manifests_documents.specs.declared.crd_fault.CrdLocation.{CrdLocation}
use Rattle.kube_manifests_documents.specs.declared.definition.CrdParts.{CrdParts}
use Rattle.kube_manifests_documents.specs.declared.definition.EntryParts.{EntryParts}
use Rattle.kube_manifests_documents.specs.declared.definition.TypeMeta as declared
use Rattle.kube_manifests_documents.specs.declared.defined.DefinedVersion.{DefinedVersion}
use Rattle.kube_manifests_documents.specs.declared.defined.DefinedVersions.{DefinedVersions}
use Rattle.kube_manifests_documents.specs.Definitions.{Crd, Entry, Fault, Location}
use Rattle.kube_manifests_documents.specs.Versions.{TypeMeta, Version, is_defined, is_of_version}
use Rattle.kube_manifests_texts.specs.Positions.{first_at, position_at}

abbrev pub crd_view : CrdParts → Crd
crd_view p = record { group = p.group.now; kind = p.kind.now; versions = items_view p.versions.now }

abbrev pub entry_view : EntryParts → Entry
entry_view p = record { name = p.name.now; served = p.served; schema = view p.schema.now }

abbrev pub type_meta_view : declared.TypeMeta → TypeMeta
type_meta_view m = record { api_version = m.api_version.now; kind = m.kind.now }

-- the view of what was read, or the fault
abbrev pub shape_view : {A B : Type 0} → (A → B) → Result A CrdFault → Result B CrdFault
shape_view f (Ok a) = Ok (f a)
shape_view f (Err e) = Err e

abbrev pub location_view : CrdLocation → Location
location_view p = record { document = p.document; item = p.item }

abbrev pub error_view : CrdError → Fault
error_view e = record {
  document = e.document;
  item = e.item;
  pointer = string_bytes e.pointer;
  fault = e.fault;
}

-- ---- versions

abbrev pub defined_view : DefinedVersion → Version Data
defined_view v = record {
  group = v.group.now;
  kind = v.kind.now;
  name = v.name.now;
  served = v.served;
  schema = view v.schema.now;
}

abbrev pub list_view : DefinedVersions → List (Version Data)
list_view vs = map defined_view vs.list.items

-- the two indexes have the first version of each apiVersion and kind, and of each group and kind
abbrev pub IsIndexed : DefinedVersions → Type 0
IsIndexed vs =
    ((text kind : List ℕ) → position_at vs.by_version text kind ≡ first_at (is_of_version text kind) (list_view vs))
    × ((group kind : List ℕ) → position_at vs.by_group group kind ≡ first_at (is_defined group kind) (list_view vs))

-- the versions after a document was added, or the fault
abbrev pub added_view : List (Version Data) → Result (Unit {0}) CrdError → Result (List (Version Data)) Fault
added_view vs (Ok u) = Ok vs
added_view vs (Err e) = Err (error_view e)

-- the versions of all documents, or the fault
abbrev pub defined_in : Result DefinedVersions CrdError → Result (List (Version Data)) Fault
defined_in (Ok vs) = Ok (list_view vs)
defined_in (Err e) = Err (error_view e)
