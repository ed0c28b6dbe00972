-- Trusted by laws alone.
-- The versions in documents, one document after another, whatever is wrong with other parts of
-- them: Kubernetes API reference, CustomResourceDefinition v1.
use Rattle.std.specs.Prelude.{List, [], ◌∷◌, ◌++◌, Option, Some, None, Result, Ok, Err}
use Rattle.serde_json.specs.Data.{Data, Items, no_items, item}
use Rattle.kube_manifests_documents.specs.declared.crd_fault.CrdFault.{CrdFault}
use Rattle.kube_manifests_documents.specs.Definitions.{Crd, Entry, crd_of, entry_of, list_of, version_of}
use Rattle.kube_manifests_documents.specs.Versions.{Version}

-- the results of all items, one after another
abbrev pub from_each_item : {V : Type 0} → (Data → List V) → Items → List V
from_each_item f no_items = []
from_each_item f (item d ds) = f d ++ from_each_item f ds

-- a value that is no version, or no definition, has none
abbrev pub entry_versions : Crd → Result Entry CrdFault → List (Version Data)
entry_versions crd (Err f) = []
entry_versions crd (Ok e) = version_of crd e ∷ []

abbrev pub crd_versions : Result Crd CrdFault → List (Version Data)
crd_versions (Err f) = []
crd_versions (Ok crd) = from_each_item (λ d. entry_versions crd (entry_of d)) crd.versions

abbrev pub list_versions : Data → Option Items → List (Version Data)
list_versions d None = crd_versions (crd_of d)
list_versions d (Some ds) = from_each_item (λ e. crd_versions (crd_of e)) ds

-- the versions of a document: those of its definition or, if it is a list, of all its items
abbrev pub document_versions : Data → List (Version Data)
document_versions d = list_versions d (list_of d)
