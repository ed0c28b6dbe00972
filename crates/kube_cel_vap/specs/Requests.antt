-- Trusted by the clauses of policies.
-- Admission requests (Kubernetes API reference, AdmissionRequest of
-- admission.k8s.io/v1), and the CEL values by which the expressions of a
-- policy read them (Kubernetes documentation, "Validating Admission Policy").
use Rattle.cel_value.specs.Data.{Data, Entries, bool, list, map_of, no_entries, text, text_key}
use Rattle.cel_value.specs.Keys.{put}
use Rattle.cel_value.specs.View.{items_of}
use Rattle.kube_cel_vap.specs.declared.request.AdmissionRequest.{AdmissionRequest}
use Rattle.kube_cel_vap.specs.declared.request.GroupVersionKind.{GroupVersionKind}
use Rattle.kube_cel_vap.specs.declared.request.GroupVersionResource.{GroupVersionResource}
use Rattle.std.specs.Prelude.{ℕ, List, [], ◌∷◌, map, Bool, false, codes, string_bytes}

-- the kind of an object
pub record KindData : Type 0 where
  pub group : List ℕ
  pub version : List ℕ
  pub kind : List ℕ

-- the resource under which objects of a kind are served
pub record ResourceData : Type 0 where
  pub group : List ℕ
  pub version : List ℕ
  pub resource : List ℕ

pub record RequestData : Type 0 where
  pub operation : List ℕ
  pub username : List ℕ
  pub uid : List ℕ
  pub groups : List (List ℕ)
  pub name : List ℕ
  pub namespace : List ℕ
  pub dry_run : Bool
  pub kind : KindData
  pub resource : ResourceData

abbrev pub empty_kind : KindData
empty_kind = record { group = []; version = []; kind = [] }

abbrev pub empty_resource : ResourceData
empty_resource = record { group = []; version = []; resource = [] }

-- the empty request
abbrev pub empty_request : RequestData
empty_request = record {
  operation = [];
  username = [];
  uid = [];
  groups = [];
  name = [];
  namespace = [];
  dry_run = false;
  kind = empty_kind;
  resource = empty_resource;
}

-- ---- the CEL value

-- a map with these entries, whose keys aren't escaped
abbrev pub entries_with : List (List ℕ × Data) → Entries
entries_with [] = no_entries
entries_with (e ∷ es) = put (text_key e.0) e.1 (entries_with es)

unfoldable pub map_with : List (List ℕ × Data) → Data
map_with es = map_of (entries_with es)

unfoldable pub texts_value : List (List ℕ) → Data
texts_value texts = list (items_of (map text texts))

unfoldable pub kind_value : KindData → Data
kind_value k =
    map_with ((codes "group", text k.group)
    ∷ (codes "version", text k.version) ∷ (codes "kind", text k.kind) ∷ [])

unfoldable pub resource_value : ResourceData → Data
resource_value r =
    map_with ((codes "group", text r.group) ∷ (codes "version", text r.version)
    ∷ (codes "resource", text r.resource) ∷ [])

-- the user of the request
unfoldable pub user_value : RequestData → Data
user_value r =
    map_with ((codes "username", text r.username) ∷ (codes "uid", text r.uid)
    ∷ (codes "groups", texts_value r.groups) ∷ [])

unfoldable pub request_value : RequestData → Data
request_value r = map_with (
    (codes "operation", text r.operation)
    ∷ (codes "name", text r.name)
    ∷ (codes "namespace", text r.namespace)
    ∷ (codes "dryRun", bool r.dry_run)
    ∷ (codes "kind", kind_value r.kind)
    ∷ (codes "resource", resource_value r.resource)
    ∷ (codes "userInfo", user_value r)
    ∷ [])

-- ---- views of the code's values

abbrev pub kind_view : GroupVersionKind → KindData
kind_view k = record {
  group = string_bytes k.group;
  version = string_bytes k.version;
  kind = string_bytes k.kind;
}

abbrev pub resource_view : GroupVersionResource → ResourceData
resource_view r = record {
  group = string_bytes r.group;
  version = string_bytes r.version;
  resource = string_bytes r.resource;
}

abbrev pub request_view : AdmissionRequest → RequestData
request_view r = record {
  operation = string_bytes r.operation;
  username = string_bytes r.username;
  uid = string_bytes r.uid;
  groups = map string_bytes r.groups.items;
  name = string_bytes r.name;
  namespace = string_bytes r.namespace;
  dry_run = r.dry_run;
  kind = kind_view r.kind;
  resource = resource_view r.resource;
}
