-- Trusted by the clauses of policies.
-- The CEL value of a request (Kubernetes API reference, AdmissionRequest of `admission.k8s.io`, GroupVersionKind,
-- GroupVersionResource and UserInfo). A member that the request doesn't have is absent, and so is one that is null. An
-- optional string, list or map that is empty is left out as well, as it is where an API server writes a request. The
-- expressions of a policy don't see `uid`, `object` and `oldObject`.
use Rattle.cel_value.specs.Data.{Data, Entries, map_of, no_entries, text_key}
use Rattle.cel_value.specs.Keys.{put}
use Rattle.kube_manifests_names.specs.Unstructured.{unstructured}
use Rattle.kube_manifests_names.specs.declared.request.Part.{Part}
use Rattle.kube_manifests_names.specs.declared.request.Part.TheVariants.{Kept, Filled, Kind, Resource, User}
use Rattle.serde_json.specs.Data as json_data
use Rattle.serde_json.specs.Find.{get}
use Rattle.std.specs.Prelude.{ℕ, List, [], ◌∷◌, ◌==◌, length, Bool, true, false, ◌&&◌, ◌||◌, if◌then◌else◌, Option, Some, None, option_and_then, codes}

-- ---- members

abbrev pub is_null : json_data.Data → Bool
is_null json_data.null = true
is_null (json_data.boolean b) = false
is_null (json_data.number n) = false
is_null (json_data.string s) = false
is_null (json_data.array ds) = false
is_null (json_data.object ms) = false

abbrev pub has_no_item : json_data.Items → Bool
has_no_item json_data.no_items = true
has_no_item (json_data.item d ds) = false

abbrev pub has_no_member : json_data.Members → Bool
has_no_member json_data.no_members = true
has_no_member (json_data.member k d ms) = false

-- an empty string, list or object
abbrev pub is_blank : json_data.Data → Bool
is_blank json_data.null = false
is_blank (json_data.boolean b) = false
is_blank (json_data.number n) = false
is_blank (json_data.string s) = length s == 0
is_blank (json_data.array ds) = has_no_item ds
is_blank (json_data.object ms) = has_no_member ms

-- the value of a member, unless it is left out; the Bool says whether an empty one is
abbrev pub leaf : Bool → json_data.Data → Option Data
leaf fills d = if is_null d || (fills && is_blank d) then None else Some (unstructured d)

abbrev pub with_member : List ℕ → Option Data → Entries → Entries
with_member name None es = es
with_member name (Some v) es = put (text_key name) v es

-- one more member for each of these fields
abbrev pub record_onto : Entries → List (List ℕ × Bool) → json_data.Data → Entries
record_onto es [] d = es
record_onto es (f ∷ fs) d = record_onto (with_member f.0 (option_and_then (leaf f.1) (get f.0 d)) es) fs d

-- the map of these fields
unfoldable pub record_value : List (List ℕ × Bool) → json_data.Data → Data
record_value fs d = map_of (record_onto no_entries fs d)

-- ---- the request

abbrev pub kind_fields : List (List ℕ × Bool)
kind_fields = (codes "group", false) ∷ (codes "version", false) ∷ (codes "kind", false) ∷ []

abbrev pub resource_fields : List (List ℕ × Bool)
resource_fields = (codes "group", false) ∷ (codes "version", false) ∷ (codes "resource", false) ∷ []

abbrev pub user_fields : List (List ℕ × Bool)
user_fields =
    (codes "username", true) ∷ (codes "uid", true) ∷ (codes "groups", true) ∷ (codes "extra", true) ∷ []

abbrev pub unless_null : List (List ℕ × Bool) → json_data.Data → Option Data
unless_null fs d = if is_null d then None else Some (record_value fs d)

abbrev pub part_value : Part → json_data.Data → Option Data
part_value Kept d = leaf false d
part_value Filled d = leaf true d
part_value Kind d = unless_null kind_fields d
part_value Resource d = unless_null resource_fields d
part_value User d = unless_null user_fields d

abbrev pub request_fields : List (List ℕ × Part)
request_fields =
    (codes "kind", Kind) ∷ (codes "resource", Resource) ∷ (codes "subResource", Filled)
    ∷ (codes "requestKind", Kind) ∷ (codes "requestResource", Resource) ∷ (codes "requestSubResource", Filled)
    ∷ (codes "name", Filled) ∷ (codes "namespace", Filled) ∷ (codes "operation", Kept)
    ∷ (codes "userInfo", User) ∷ (codes "dryRun", Kept) ∷ (codes "options", Kept) ∷ []

abbrev pub parts_onto : Entries → List (List ℕ × Part) → json_data.Data → Entries
parts_onto es [] d = es
parts_onto es (f ∷ fs) d = parts_onto (with_member f.0 (option_and_then (part_value f.1) (get f.0 d)) es) fs d

-- the value of the `request` of an AdmissionReview
unfoldable pub request_value : json_data.Data → Data
request_value d = map_of (parts_onto no_entries request_fields d)
