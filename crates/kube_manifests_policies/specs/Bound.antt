-- Trusted by the clauses of policies.
-- What the names of an expression are bound to (Kubernetes API reference, Validation of
-- ValidatingAdmissionPolicySpec: the variables of `expression`): objects with their own keys.
use Rattle.cel.specs.Bindings.{Bindings}
use Rattle.cel_value.specs.Data.{Data, null}
use Rattle.kube_cel_vap.specs.Bound.{always_bound, with_given}
use Rattle.kube_manifests_documents.specs.Inputs.{Variables}
use Rattle.kube_manifests_names.specs.Requests.{request_value}
use Rattle.kube_manifests_names.specs.Unstructured.{unstructured}
use Rattle.serde_json.specs.Data.{Data as Json}
use Rattle.std.specs.Prelude.{codes, Option, Some, None}

abbrev pub request_or_null : Option Json → Data
request_or_null None = null
request_or_null (Some d) = request_value d

-- the names that are always bound
unfoldable pub bindings_always : Variables → Bindings
bindings_always v = always_bound unstructured v.object v.old_object (request_or_null v.request)

-- all names that are bound, before any variable is evaluated
unfoldable pub policy_bindings : Variables → Bindings
policy_bindings v =
    with_given unstructured (codes "namespaceObject") v.namespace_object
    (with_given unstructured (codes "params") v.params (bindings_always v))
