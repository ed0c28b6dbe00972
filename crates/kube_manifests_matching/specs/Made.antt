-- Trusted by the clauses of other library calls.
-- The attributes of a request that is made up of an object: Kubernetes API reference, AdmissionRequest and ObjectMeta;
-- API conventions, "Types (Kinds)" (apiVersion).
use Rattle.kube_manifests_bindings.specs.Fields.{text_in}
use Rattle.kube_manifests_matching.specs.Attributes.{AttributesData, EquivalentsData, equivalents_view}
use Rattle.kube_manifests_matching.specs.Params.{metadata_text}
use Rattle.kube_manifests_matching.specs.Rules.{is_slash}
use Rattle.kube_manifests_matching.specs.declared.attributes.Operation.{Operation}
use Rattle.kube_manifests_matching.specs.declared.attributes.Operation.TheVariants.{Create, Update, Delete, Connect}
use Rattle.kube_manifests_matching.specs.declared.made.MadeRequest.{MadeRequest}
use Rattle.kube_manifests_resources.specs.Builtins.{GroupVersionData}
use Rattle.kube_manifests_resources.specs.declared.resources.ResourceScope.{ResourceScope}
use Rattle.kube_manifests_resources.specs.declared.resources.ResourceScope.TheVariants.{Cluster, Namespaced}
use Rattle.serde_json.specs.Data.{Data}
use Rattle.serde_json.specs.Find.{get}
use Rattle.serde_json.specs.View.{view}
use Rattle.std.specs.List.{after_first, before_first, position_or_len}
use Rattle.std.specs.Prelude.{ℕ, List, [], length, ◌&&◌, nat_lt, Option, option_map, codes, if◌then◌else◌}
use Rattle.std.specs.Str.{bytes_eq}

-- what is said of a request
pub record MadeData : Type 0 where
  pub operation : Operation
  pub plural : List ℕ
  pub scope : ResourceScope
  pub subresource : List ℕ
  pub object : Option Data
  pub old_object : Option Data
  pub namespace_object : Option Data
  pub equivalents : EquivalentsData

-- an apiVersion has the form `GROUP/VERSION` or, for the core API, `VERSION`
abbrev pub served_of : List ℕ → GroupVersionData
served_of text =
    if nat_lt (position_or_len is_slash text) (length text)
    then record { group = before_first is_slash text; version = after_first is_slash text }
    else record { group = []; version = text }

-- the object that the request is about
abbrev pub subject : Operation → MadeData → Option Data
subject Create m = m.object
subject Update m = m.object
subject Delete m = m.old_object
subject Connect m = m.object

-- a request for a Namespace names it as its namespace
abbrev pub cluster_namespace : List ℕ → List ℕ → Data → List ℕ
cluster_namespace group plural d =
    if bytes_eq group (codes "") && bytes_eq plural (codes "namespaces") then metadata_text (codes "name") d else []

abbrev pub namespace_by : ResourceScope → List ℕ → List ℕ → Data → List ℕ
namespace_by Cluster group plural d = cluster_namespace group plural d
namespace_by Namespaced group plural d = metadata_text (codes "namespace") d

abbrev pub made_about : MadeData → Data → AttributesData
made_about m d =
    let served = served_of (text_in (get (codes "apiVersion") d)) in record {
      operation = m.operation;
      served = served;
      resource = m.plural;
      subresource = m.subresource;
      namespace = namespace_by m.scope served.group m.plural d;
      name = metadata_text (codes "name") d;
      object = m.object;
      old_object = m.old_object;
      namespace_object = m.namespace_object;
      equivalents = m.equivalents;
    }

-- None if the object is missing that the request is about
abbrev pub made_of : MadeData → Option AttributesData
made_of m = option_map (made_about m) (subject m.operation m)

-- ---- views of the code's values

abbrev pub made_view : MadeRequest → MadeData
made_view m = record {
  operation = m.operation;
  plural = m.plural.now;
  scope = m.scope;
  subresource = m.subresource.now;
  object = option_map (λ v. view v.now) m.object;
  old_object = option_map (λ v. view v.now) m.old_object;
  namespace_object = option_map (λ v. view v.now) m.namespace_object;
  equivalents = equivalents_view m.equivalents;
}
