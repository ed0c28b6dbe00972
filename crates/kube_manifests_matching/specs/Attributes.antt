-- Trusted by the clauses of other library calls.
-- What decides of a request which policies apply to it: Kubernetes API reference, AdmissionRequest of `admission.k8s.io`.
use Rattle.kube_manifests_bindings.specs.Fields.{text_in}
use Rattle.kube_manifests_matching.specs.declared.attributes.Attributes.{Attributes}
use Rattle.kube_manifests_matching.specs.declared.attributes.Equivalents.{Equivalents}
use Rattle.kube_manifests_matching.specs.declared.attributes.Equivalents.TheVariants as code
use Rattle.kube_manifests_matching.specs.declared.attributes.Operation.{Operation}
use Rattle.kube_manifests_matching.specs.declared.attributes.Operation.TheVariants.{Create, Update, Delete, Connect}
use Rattle.kube_manifests_resources.specs.Builtins.{GroupVersionData}
use Rattle.kube_manifests_resources.specs.Resources.{served_view}
use Rattle.serde_json.specs.Data.{Data, object, Items}
use Rattle.serde_json.specs.Find.{get}
use Rattle.serde_json.specs.View.{items_view, view}
use Rattle.std.specs.Prelude.{ℕ, List, map, Option, Some, None, option_and_then, option_map, codes, if◌then◌else◌}
use Rattle.std.specs.Str.{bytes_eq}

-- under which groups and versions the API server has the same resource
pub data EquivalentsData : Type 0 where
  NotKnown : EquivalentsData
  Listed : List GroupVersionData → EquivalentsData
  -- under this group, and those of the versions with these entries that are served
  Defined : List ℕ → Items → EquivalentsData

pub record AttributesData : Type 0 where
  pub operation : Operation
  -- under which the resource is asked for
  pub served : GroupVersionData
  -- its plural name
  pub resource : List ℕ
  -- empty if there is none
  pub subresource : List ℕ
  -- empty if there is none
  pub namespace : List ℕ
  -- empty if it isn't known yet
  pub name : List ℕ
  -- None for null
  pub object : Option Data
  pub old_object : Option Data
  -- the Namespace object of the namespace, if it is given
  pub namespace_object : Option Data
  pub equivalents : EquivalentsData

abbrev pub operation_word : Operation → List ℕ
operation_word Create = codes "CREATE"
operation_word Update = codes "UPDATE"
operation_word Delete = codes "DELETE"
operation_word Connect = codes "CONNECT"

-- ---- the request in an AdmissionReview

abbrev pub operation_of : List ℕ → Option Operation
operation_of s =
    if bytes_eq s (codes "CREATE") then Some Create
    else (if bytes_eq s (codes "UPDATE") then Some Update
    else (if bytes_eq s (codes "DELETE") then Some Delete
    else (if bytes_eq s (codes "CONNECT") then Some Connect else None)))

-- an object, unless it is null or missing
abbrev pub object_in : Option Data → Option Data
object_in (Some (object ms)) = Some (object ms)
object_in _ = None

-- The original request counts: `requestResource` and `requestSubResource`, which default to `resource` and `subResource`.
abbrev pub or_other : Option Data → Option Data → Option Data
or_other (Some d) other = Some d
or_other None other = other

abbrev pub resource_in : Data → Option Data
resource_in request =
    or_other (object_in (get (codes "requestResource") request)) (object_in (get (codes "resource") request))

abbrev pub subresource_beside : Option Data → Data → List ℕ
subresource_beside (Some d) request = text_in (get (codes "requestSubResource") request)
subresource_beside None request = text_in (get (codes "subResource") request)

abbrev pub subresource_in : Data → List ℕ
subresource_in request = subresource_beside (object_in (get (codes "requestResource") request)) request

-- the attributes of a request whose operation and resource are these
abbrev pub with_resource : Data → Option Data → EquivalentsData → Operation → Data → AttributesData
with_resource request namespace equivalents operation resource = record {
  operation = operation;
  served = record { group = text_in (get (codes "group") resource); version = text_in (get (codes "version") resource) };
  resource = text_in (get (codes "resource") resource);
  subresource = subresource_in request;
  namespace = text_in (get (codes "namespace") request);
  name = text_in (get (codes "name") request);
  object = object_in (get (codes "object") request);
  old_object = object_in (get (codes "oldObject") request);
  namespace_object = namespace;
  equivalents = equivalents;
}

-- None if the request has no operation or no resource
unfoldable pub attributes_of : Data → Option Data → EquivalentsData → Option AttributesData
attributes_of request namespace equivalents =
    option_and_then (λ operation. option_map (with_resource request namespace equivalents operation) (resource_in request))
    (operation_of (text_in (get (codes "operation") request)))

-- ---- views of the code's values

abbrev pub equivalents_view : Equivalents → EquivalentsData
equivalents_view code.Unknown = NotKnown
equivalents_view (code.Listed gs) = Listed (map served_view gs.now)
equivalents_view (code.Defined r) = Defined r.group.now (items_view r.versions.now)

abbrev pub attributes_view : Attributes → AttributesData
attributes_view a = record {
  operation = a.operation;
  served = served_view a.served;
  resource = a.resource.now;
  subresource = a.subresource.now;
  namespace = a.namespace.now;
  name = a.name.now;
  object = option_map (λ v. view v.now) a.object;
  old_object = option_map (λ v. view v.now) a.old_object;
  namespace_object = option_map (λ v. view v.now) a.namespace_object;
  equivalents = equivalents_view a.equivalents;
}
