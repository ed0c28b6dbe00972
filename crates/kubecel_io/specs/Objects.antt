-- Trusted by the clauses of kubecel.
-- The objects in a document, their identities, and the old object that has an object's identity.
-- Sources: Kubernetes API conventions, "Types (Kinds)" (lists), "Metadata"; Kubernetes
-- documentation, "API groups and versioning".
use Rattle.kube_manifests_documents.specs.Definitions.{list_of}
use Rattle.kubecel_io.specs.Reads.{Found}
use Rattle.kubecel_io.specs.declared.objects.Identity.{Identity}
use Rattle.serde_json.specs.Data.{Data, Items, no_items, item}
use Rattle.serde_json.specs.Find.{get, as_str}
use Rattle.std.specs.List.{before_first, find, flat_map, position_or_len}
use Rattle.std.specs.Prelude.{ℕ, ◌==◌, ◌&&◌, List, [], ◌∷◌, map, length, nat_lt, Bool, if◌then◌else◌, Option, None, option_and_then, unwrap_or, not, codes, true}
use Rattle.std.specs.Option.{option_map_or}
use Rattle.std.specs.Str.{bytes_eq}

-- the string in a member, empty if there is none
abbrev pub text_at : List ℕ → Data → List ℕ
text_at key d = unwrap_or (option_and_then as_str (get key d)) []

-- the string in a member of `metadata`, empty if there is none
abbrev pub metadata_at : List ℕ → Data → List ℕ
metadata_at key d =
    unwrap_or (option_and_then as_str (option_and_then (get key) (get (codes "metadata") d))) []

-- ---- lists

abbrev pub each_item : Items → List Data
each_item no_items = []
each_item (item d ds) = d ∷ each_item ds

-- an item of a document, with the document's file and index
abbrev pub item_of : Found → Data → Found
item_of f d = record { file = f.file; index = f.index; is_item = true; value = d }

-- the objects of a document: its items if it is a list, otherwise the document itself
abbrev pub objects_of : Found → List Found
objects_of f = option_map_or (λ ds. map (item_of f) (each_item ds)) (list_of f.value) (f ∷ [])

-- the objects of all documents, in order
abbrev pub all_objects : List Found → List Found
all_objects fs = flat_map objects_of fs

-- ---- identities

-- the group in an apiVersion of the form `GROUP/VERSION` or `VERSION`
abbrev pub group_in : List ℕ → List ℕ
group_in text =
    if nat_lt (position_or_len (λ b. b == 47) text) (length text)
    then before_first (λ b. b == 47) text else []

pub record IdentityData : Type 0 where
  pub group : List ℕ
  pub kind : List ℕ
  pub namespace : List ℕ
  pub name : List ℕ

abbrev pub identity_of : Data → IdentityData
identity_of d = record {
  group = group_in (text_at (codes "apiVersion") d);
  kind = text_at (codes "kind") d;
  namespace = metadata_at (codes "namespace") d;
  name = metadata_at (codes "name") d;
}

abbrev pub is_same : IdentityData → IdentityData → Bool
is_same a b =
    bytes_eq a.name b.name && (bytes_eq a.namespace b.namespace
    && (bytes_eq a.kind b.kind && bytes_eq a.group b.group))

abbrev pub is_named : IdentityData → Bool
is_named i = not (length i.name == 0)

-- the first of the old objects that has the object's names
abbrev pub first_same : List Data → Data → Option Data
first_same olds d = find (λ o. is_same (identity_of o) (identity_of d)) olds

-- the first of the old objects that has the object's identity; none of an object without a name, which has no identity
-- until an API server has made one from its generateName
abbrev pub old_of : List Data → Data → Option Data
old_of olds d = if is_named (identity_of d) then first_same olds d else None

-- ---- views of the code's values

abbrev pub identity_view : Identity → IdentityData
identity_view i = record {
  group = i.group.now;
  kind = i.kind.now;
  namespace = i.namespace.now;
  name = i.name.now;
}
