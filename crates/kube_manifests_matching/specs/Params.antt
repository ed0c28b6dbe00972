-- Trusted by the clauses of other library calls.
-- Which params a policy is evaluated with by a binding: Kubernetes documentation, "Validating Admission Policy"
-- (Parameter resources, Per-namespace parameters, Parameter selector, parameterNotFoundAction); API reference, ParamKind
-- and ParamRef of `admissionregistration.k8s.io`.
use Rattle.kube_manifests_bindings.specs.Bindings.{ParamKindData, ParamRefData, Source, Named, Selected, param_kind_view, source_view}
use Rattle.kube_manifests_bindings.specs.Fields.{text_in}
use Rattle.kube_manifests_matching.specs.Labels.{labels_of, selects}
use Rattle.kube_manifests_matching.specs.declared.params.ParamFilter.{ParamFilter}
use Rattle.kube_manifests_resources.specs.declared.resources.ResourceScope.{ResourceScope}
use Rattle.kube_manifests_resources.specs.declared.resources.ResourceScope.TheVariants.{Cluster, Namespaced}
use Rattle.kube_manifests_matching.specs.declared.params.ParamsFailure.{ParamsFailure}
use Rattle.kube_manifests_matching.specs.declared.params.ParamsFailure.TheVariants.{NamespaceOfCluster, NoNamespace, NotFound}
use Rattle.kube_manifests_matching.specs.declared.params.Plan.{Plan}
use Rattle.kube_manifests_matching.specs.declared.params.Plan.TheVariants as code
use Rattle.serde_json.specs.Data.{Data}
use Rattle.serde_json.specs.Find.{get}
use Rattle.std.specs.List.{list_any}
use Rattle.std.specs.Prelude.{ℕ, List, [], ◌∷◌, Bool, true, false, ◌&&◌, Option, Some, None, option_and_then, option_map, codes}
use Rattle.std.specs.Str.{bytes_eq}

-- ---- one object

-- which objects are taken as params
pub record FilterData : Type 0 where
  pub kind : ParamKindData
  -- their namespace; None for a kind that isn't in namespaces
  pub namespace : Option (List ℕ)
  pub source : Source

abbrev pub metadata_text : List ℕ → Data → List ℕ
metadata_text key d = text_in (option_and_then (get key) (get (codes "metadata") d))

abbrev pub is_of_kind : ParamKindData → Data → Bool
is_of_kind k d =
    bytes_eq (text_in (get (codes "apiVersion") d)) k.api_version && bytes_eq (text_in (get (codes "kind") d)) k.kind

-- an object that names no namespace is in none
abbrev pub is_in : Option (List ℕ) → Data → Bool
is_in None d = true
is_in (Some namespace) d = bytes_eq (metadata_text (codes "namespace") d) namespace

abbrev pub is_from : Source → Data → Bool
is_from (Named name) d = bytes_eq (metadata_text (codes "name") d) name
is_from (Selected s) d = selects s (labels_of d)

abbrev pub takes : FilterData → Data → Bool
takes f d = is_of_kind f.kind d && (is_in f.namespace d && is_from f.source d)

-- ---- a policy and a binding

pub data PlanData : Type 0 where
  -- one evaluation, in which `params` is null
  Once : PlanData
  -- one evaluation with each object that is taken; whether it is a failure if there is none
  Each : FilterData → Bool → PlanData
  -- a failure, on which failurePolicy decides
  Failed : ParamsFailure → PlanData
  -- it isn't known whether the params are in namespaces
  NotJudged : PlanData

-- the namespace of the params, or that of the request, which is empty if there is none
abbrev pub namespace_or : Option (List ℕ) → List ℕ → Option (List ℕ)
namespace_or (Some namespace) other = Some namespace
namespace_or None [] = None
namespace_or None (c ∷ cs) = Some (c ∷ cs)

abbrev pub in_cluster : ParamKindData → ParamRefData → Option (List ℕ) → PlanData
in_cluster k r None = Each (record { kind = k; namespace = None; source = r.source }) r.denies
in_cluster k r (Some namespace) = Failed NamespaceOfCluster

abbrev pub in_namespace : ParamKindData → ParamRefData → Option (List ℕ) → PlanData
in_namespace k r None = Failed NoNamespace
in_namespace k r (Some namespace) =
    Each (record { kind = k; namespace = Some namespace; source = r.source }) r.denies

abbrev pub in_scope : ParamKindData → ParamRefData → Option ResourceScope → List ℕ → PlanData
in_scope k r None namespace = NotJudged
in_scope k r (Some Cluster) namespace = in_cluster k r r.namespace
in_scope k r (Some Namespaced) namespace = in_namespace k r (namespace_or r.namespace namespace)

-- `params` is null without a `paramKind`, and without a `paramRef`; the last argument is the namespace of the request
abbrev pub plan_of : Option ParamKindData → Option ParamRefData → Option ResourceScope → List ℕ → PlanData
plan_of None r scope namespace = Once
plan_of (Some k) None scope namespace = Once
plan_of (Some k) (Some r) scope namespace = in_scope k r scope namespace

-- ---- over given objects

-- With each object that is taken there is one evaluation. Where it is a failure that there is none, this is it.
abbrev pub unless_taken : Bool → Bool → Option ParamsFailure
unless_taken true false = Some NotFound
unless_taken true true = None
unless_taken false taken = None

abbrev pub failure_of : PlanData → List Data → Option ParamsFailure
failure_of Once ds = None
failure_of (Each f denies) ds = unless_taken denies (list_any (takes f) ds)
failure_of (Failed failure) ds = Some failure
failure_of NotJudged ds = None

-- ---- views of the code's values

abbrev pub filter_view : ParamFilter → FilterData
filter_view f = record {
  kind = param_kind_view f.kind;
  namespace = option_map (λ s. s.now) f.namespace;
  source = source_view f.source;
}

abbrev pub plan_view : Plan → PlanData
plan_view code.Once = Once
plan_view (code.Each f denies) = Each (filter_view f) denies
plan_view (code.Failed failure) = Failed failure
plan_view code.NotJudged = NotJudged
