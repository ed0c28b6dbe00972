-- Trusted by the clauses of policies.
-- The request in an AdmissionReview (Kubernetes API reference, AdmissionReview, AdmissionRequest and UserInfo;
-- Kubernetes documentation, "Dynamic Admission Control", webhook request), or its first fault.
use Rattle.kube_manifests_documents.specs.Faults.{FaultData, NotBool, NotList, NotObject, NotString, fault_view, member_item_pointer, ◌>>=◌}
use Rattle.kube_manifests_documents.specs.Pointers.{key_pointer}
use Rattle.kube_manifests_documents.specs.Inputs.{Variables, inputs_view}
use Rattle.kube_manifests_documents.specs.Policies.{object_of, required_one, required_text, text_of, unless_unknown}
use Rattle.kube_manifests_documents.specs.declared.fault.PolicyFault.{PolicyFault}
use Rattle.kube_manifests_documents.specs.declared.inputs.PolicyInputs.{PolicyInputs}
use Rattle.kube_manifests_documents.specs.declared.review.Objects.{Objects}
use Rattle.serde_json.specs.Data.{Data, null, boolean, string, array, object, Items, no_items, item, Members, no_members, member}
use Rattle.serde_json.specs.Find.{get}
use Rattle.serde_json.specs.View.{view}
use Rattle.std.specs.List.{list_any}
use Rattle.std.specs.Prelude.{ℕ, suc, List, [], ◌∷◌, ⊤, Bool, true, false, Option, Some, None, option_map, Result, Ok, Err, codes}
use Rattle.std.specs.Str.{bytes_eq}

-- whether something has the shape of its type, or its first fault
abbrev pub Shape : Type 0
Shape = Result ⊤ FaultData

-- ---- fields

-- a string field, which may be missing or null, of the object at the pointer base
abbrev pub text_fits : List ℕ → Data → List ℕ → Shape
text_fits base d name = text_of (key_pointer base name) (get name d) >>= (λ t. Ok tt)

abbrev pub required_text_fits : List ℕ → Data → List ℕ → Shape
required_text_fits base d name = required_text (key_pointer base name) (get name d) >>= (λ t. Ok tt)

-- such fields of these names
abbrev pub texts_fit : List ℕ → Data → List (List ℕ) → Shape
texts_fit base d [] = Ok tt
texts_fit base d (name ∷ names) = text_fits base d name >>= (λ t. texts_fit base d names)

abbrev pub bool_of : List ℕ → Option Data → Shape
bool_of p None = Ok tt
bool_of p (Some null) = Ok tt
bool_of p (Some (boolean b)) = Ok tt
bool_of p (Some _) = Err (record { pointer = p; kind = NotBool })

abbrev pub object_in : List ℕ → Data → List ℕ → Result Data FaultData
object_in base d name = object_of (key_pointer base name) (get name d)

-- an object, which may be missing or null
abbrev pub optional_object : List ℕ → Option Data → Result (Option Data) FaultData
optional_object p None = Ok None
optional_object p (Some null) = Ok None
optional_object p (Some (object ms)) = Ok (Some (object ms))
optional_object p (Some _) = Err (record { pointer = p; kind = NotObject })

abbrev pub optional_in : List ℕ → Data → List ℕ → Result (Option Data) FaultData
optional_in base d name = optional_object (key_pointer base name) (get name d)

abbrev pub fits_where : (Data → Shape) → Option Data → Shape
fits_where fits None = Ok tt
fits_where fits (Some d) = fits d

-- the items from this index on are strings; the list is in the field of this name
abbrev pub strings_fit : List ℕ → List ℕ → ℕ → Items → Shape
strings_fit base name i no_items = Ok tt
strings_fit base name i (item (string s) ds) = strings_fit base name (suc i) ds
strings_fit base name i (item _ ds) = Err (record { pointer = member_item_pointer base name i; kind = NotString })

-- a list of strings, which may be missing or null
abbrev pub strings_of : List ℕ → List ℕ → Option Data → Shape
strings_of base name None = Ok tt
strings_of base name (Some null) = Ok tt
strings_of base name (Some (array ds)) = strings_fit base name 0 ds
strings_of base name (Some _) = Err (record { pointer = key_pointer base name; kind = NotList })

-- ---- the request

-- a group, which is empty for the core group, a version, and the name of a kind or of a resource, in the field of this key
abbrev pub names_fit : List ℕ → List ℕ → Data → Shape
names_fit base key d = do
  group ← required_text_fits base d (codes "group")
  version ← required_text_fits base d (codes "version")
  required_text_fits base d key

-- these and no other field
unfoldable pub served_fits : List ℕ → List ℕ → Data → Shape
served_fits base key d = do
  known ← unless_unknown base (codes "group" ∷ codes "version" ∷ key ∷ []) d
  names_fit base key d

abbrev pub user_pointer : List ℕ
user_pointer = codes "/request/userInfo"

abbrev pub extra_pointer : List ℕ
extra_pointer = codes "/request/userInfo/extra"

-- each member is a list of strings
abbrev pub extra_fits : Members → Shape
extra_fits no_members = Ok tt
extra_fits (member k d ms) = strings_of extra_pointer k (Some d) >>= (λ t. extra_fits ms)

abbrev pub extra_of : Option Data → Shape
extra_of None = Ok tt
extra_of (Some null) = Ok tt
extra_of (Some (object ms)) = extra_fits ms
extra_of (Some _) = Err (record { pointer = key_pointer user_pointer (codes "extra"); kind = NotObject })

abbrev pub user_fields : List (List ℕ)
user_fields = codes "username" ∷ codes "uid" ∷ codes "groups" ∷ codes "extra" ∷ []

abbrev pub user_texts : List (List ℕ)
user_texts = codes "username" ∷ codes "uid" ∷ []

-- the user who makes the request
unfoldable pub user_fits : Data → Shape
user_fits d = do
  known ← unless_unknown user_pointer user_fields d
  texts ← texts_fit user_pointer d user_texts
  groups ← strings_of user_pointer (codes "groups") (get (codes "groups") d)
  extra_of (get (codes "extra") d)

abbrev pub request_pointer : List ℕ
request_pointer = codes "/request"

abbrev pub user_in : Data → Shape
user_in d = object_in request_pointer d (codes "userInfo") >>= user_fits

abbrev pub kind_in : Data → Shape
kind_in d =
    object_in request_pointer d (codes "kind") >>= served_fits (codes "/request/kind") (codes "kind")

abbrev pub resource_in : Data → Shape
resource_in d =
    object_in request_pointer d (codes "resource")
    >>= served_fits (codes "/request/resource") (codes "resource")

abbrev pub request_kind_in : Data → Shape
request_kind_in d =
    optional_in request_pointer d (codes "requestKind")
    >>= fits_where (served_fits (codes "/request/requestKind") (codes "kind"))

abbrev pub request_resource_in : Data → Shape
request_resource_in d =
    optional_in request_pointer d (codes "requestResource")
    >>= fits_where (served_fits (codes "/request/requestResource") (codes "resource"))

-- the operations that a request may have
abbrev pub operations : List (List ℕ)
operations = codes "CREATE" ∷ codes "UPDATE" ∷ codes "DELETE" ∷ codes "CONNECT" ∷ []

abbrev pub operation_in : Data → Result (List ℕ) FaultData
operation_in d = required_one (key_pointer request_pointer (codes "operation")) operations (get (codes "operation") d)

-- the fields of a request
abbrev pub request_fields : List (List ℕ)
request_fields =
    codes "uid" ∷ codes "kind" ∷ codes "resource" ∷ codes "subResource"
    ∷ codes "requestKind" ∷ codes "requestResource" ∷ codes "requestSubResource"
    ∷ codes "name" ∷ codes "namespace" ∷ codes "operation" ∷ codes "userInfo"
    ∷ codes "object" ∷ codes "oldObject" ∷ codes "dryRun" ∷ codes "options" ∷ []

abbrev pub request_texts : List (List ℕ)
request_texts =
    codes "name" ∷ codes "namespace" ∷ codes "subResource" ∷ codes "requestSubResource" ∷ []

-- the request has the shape of an AdmissionRequest; its operation
unfoldable pub request_of : Data → Result (List ℕ) FaultData
request_of d = do
  known ← unless_unknown request_pointer request_fields d
  operation ← operation_in d
  texts ← texts_fit request_pointer d request_texts
  dry_run ← bool_of (key_pointer request_pointer (codes "dryRun")) (get (codes "dryRun") d)
  user ← user_in d
  kind ← kind_in d
  resource ← resource_in d
  request_kind ← request_kind_in d
  request_resource ← request_resource_in d
  options ← optional_in request_pointer d (codes "options")
  Ok operation

-- ---- the review

abbrev pub review_versions : List (List ℕ)
review_versions = codes "admission.k8s.io/v1" ∷ codes "admission.k8s.io/v1beta1" ∷ []

abbrev pub review_kinds : List (List ℕ)
review_kinds = codes "AdmissionReview" ∷ []

-- the fields of a review
abbrev pub review_fields : List (List ℕ)
review_fields = codes "apiVersion" ∷ codes "kind" ∷ codes "request" ∷ codes "response" ∷ []

-- the `request` of a review's document
unfoldable pub request_in : Data → Result Data FaultData
request_in d = do
  version ← required_one (key_pointer [] (codes "apiVersion")) review_versions (get (codes "apiVersion") d)
  kind ← required_one (key_pointer [] (codes "kind")) review_kinds (get (codes "kind") d)
  known ← unless_unknown [] review_fields d
  object_of (key_pointer [] (codes "request")) (get (codes "request") d)

-- the two objects of a request
pub record ObjectsData : Type 0 where
  pub object : Data
  pub old_object : Data

abbrev pub value_or_null : Option Data → Data
value_or_null None = null
value_or_null (Some d) = d

-- the operations that have a new object, and those that have an old one
abbrev pub with_object : List (List ℕ)
with_object = codes "CREATE" ∷ codes "UPDATE" ∷ []

abbrev pub with_old_object : List (List ℕ)
with_old_object = codes "UPDATE" ∷ codes "DELETE" ∷ []

abbrev pub is_with : List (List ℕ) → List ℕ → Bool
is_with known operation = list_any (bytes_eq operation) known

-- An object that the operation has must be there. Any other one is null if it is left out.
abbrev pub object_if : Bool → Data → List ℕ → Result Data FaultData
object_if true d name = object_in request_pointer d name
object_if false d name = Ok (value_or_null (get name d))

unfoldable pub objects_of : List ℕ → Data → Result ObjectsData FaultData
objects_of operation d = do
  now ← object_if (is_with with_object operation) d (codes "object")
  before ← object_if (is_with with_old_object operation) d (codes "oldObject")
  Ok (record { object = now; old_object = before })

-- the whole request is given; `params` and the namespace are unknown
abbrev pub inputs_from : ObjectsData → Data → Variables
inputs_from o request = record {
  object = Some o.object;
  old_object = Some o.old_object;
  params = None;
  namespace_object = None;
  request = Some request;
}

abbrev pub inputs_with : Data → List ℕ → Result Variables FaultData
inputs_with request operation = objects_of operation request >>= (λ o. Ok (inputs_from o request))

abbrev pub inputs_in : Data → Result Variables FaultData
inputs_in request = request_of request >>= inputs_with request

unfoldable pub review_of : Data → Result Variables FaultData
review_of d = request_in d >>= inputs_in

-- ---- views of the code's values

abbrev pub objects_view : Objects → ObjectsData
objects_view o = record {
  object = value_or_null (option_map (λ v. view v.now) o.object);
  old_object = value_or_null (option_map (λ v. view v.now) o.old_object);
}

abbrev pub inputs_seen : Result PolicyInputs PolicyFault → Result Variables FaultData
inputs_seen (Ok v) = Ok (inputs_view v)
inputs_seen (Err f) = Err (fault_view f)
