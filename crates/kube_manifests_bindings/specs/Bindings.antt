-- Trusted by the clauses of other library calls.
-- What a binding says, and what a policy says of the requests that it is for, or the first fault: Kubernetes API reference,
-- ValidatingAdmissionPolicyBinding, ParamRef, ValidatingAdmissionPolicy and ParamKind of `admissionregistration.k8s.io`.
use Rattle.kube_manifests_bindings.specs.Constraints.{ConstraintsData, PointersData, checked_constraints, constraints_view}
use Rattle.kube_manifests_bindings.specs.Faults.{FaultData, Missing, NotString, Repeated, Beside}
use Rattle.kube_manifests_bindings.specs.Fields.{Form, Shape, Any, Filled, OneOf, fields_fit, formed, object_of, required_items, required_object, required_text, text_of}
use Rattle.kube_manifests_bindings.specs.Selectors.{SelectorData, selector_in, selector_of, selector_view}
use Rattle.kube_manifests_bindings.specs.declared.binding.Actions.{Actions}
use Rattle.kube_manifests_bindings.specs.declared.binding.Binding.{Binding}
use Rattle.kube_manifests_bindings.specs.declared.binding.ParamRef.{ParamRef}
use Rattle.kube_manifests_bindings.specs.declared.binding.ParamSource.{ParamSource}
use Rattle.kube_manifests_bindings.specs.declared.binding.ParamSource.TheVariants as code
use Rattle.kube_manifests_bindings.specs.declared.header.Header.{Header}
use Rattle.kube_manifests_bindings.specs.declared.policy.ParamKind.{ParamKind}
use Rattle.kube_manifests_bindings.specs.declared.policy.PolicyTarget.{PolicyTarget}
use Rattle.kube_manifests_documents.specs.Faults.{◌>>=◌}
use Rattle.kube_manifests_documents.specs.Pointers.{index_pointer, key_pointer}
use Rattle.serde_json.specs.Data.{Data, string, Items, no_items, item}
use Rattle.serde_json.specs.Find.{get}
use Rattle.serde_json.specs.View.{view}
use Rattle.std.specs.Prelude.{ℕ, suc, List, [], ◌∷◌, Bool, false, ◌&&◌, ◌||◌, Option, Some, None, option_map, Result, Ok, Err, codes, if◌then◌else◌}
use Rattle.std.specs.Str.{bytes_eq}

-- ---- what they say

-- which objects are params
pub data Source : Type 0 where
  -- the one of this name
  Named : List ℕ → Source
  -- those that a selector selects
  Selected : SelectorData → Source

pub record ParamRefData : Type 0 where
  pub source : Source
  -- the namespace of the params, if it is given
  pub namespace : Option (List ℕ)
  -- whether `parameterNotFoundAction` is `Deny`
  pub denies : Bool

-- the validationActions
pub record ActionsData : Type 0 where
  pub denies : Bool
  pub warns : Bool
  pub audits : Bool

pub record BindingData : Type 0 where
  pub name : List ℕ
  pub policy : List ℕ
  pub param_ref : Option ParamRefData
  -- `matchResources`
  pub constraints : Option ConstraintsData
  pub actions : ActionsData

pub record ParamKindData : Type 0 where
  pub api_version : List ℕ
  pub kind : List ℕ

-- which requests a policy is for, and its params
pub record PolicyTargetData : Type 0 where
  pub name : List ℕ
  pub param_kind : Option ParamKindData
  -- `matchConstraints`
  pub constraints : ConstraintsData

-- ---- what both have

abbrev pub versions : List (List ℕ)
versions =
    codes "admissionregistration.k8s.io/v1" ∷ codes "admissionregistration.k8s.io/v1beta1"
    ∷ codes "admissionregistration.k8s.io/v1alpha1" ∷ []

pub record HeaderData : Type 0 where
  pub name : List ℕ
  pub spec : Data

-- a document is of one of these kinds
abbrev pub type_fits : Form → Data → Shape
type_fits kinds d = do
  version ← required_text (key_pointer [] (codes "apiVersion")) (OneOf versions) (get (codes "apiVersion") d)
  kind ← required_text (key_pointer [] (codes "kind")) kinds (get (codes "kind") d)
  Ok tt

-- the name and the `spec` of a document
unfoldable pub header_of : Data → Result HeaderData FaultData
header_of d = do
  metadata ← required_object (key_pointer [] (codes "metadata")) (get (codes "metadata") d)
  name ← required_text (key_pointer (codes "/metadata") (codes "name")) Filled (get (codes "name") metadata)
  spec ← required_object (key_pointer [] (codes "spec")) (get (codes "spec") d)
  Ok (record { name = name; spec = spec })

abbrev pub spec_pointer : List ℕ
spec_pointer = codes "/spec"

-- ---- a binding's params

abbrev pub param_ref_pointer : List ℕ
param_ref_pointer = codes "/spec/paramRef"

abbrev pub param_ref_fields : List (List ℕ)
param_ref_fields = codes "name" ∷ codes "namespace" ∷ codes "selector" ∷ codes "parameterNotFoundAction" ∷ []

abbrev pub not_found_actions : List (List ℕ)
not_found_actions = codes "Allow" ∷ codes "Deny" ∷ []

-- an empty text is missing
abbrev pub unless_empty : Option (List ℕ) → Option (List ℕ)
unless_empty None = None
unless_empty (Some []) = None
unless_empty (Some (c ∷ cs)) = Some (c ∷ cs)

-- exactly one of name and selector has to be there
abbrev pub source_of : Option (List ℕ) → Option Data → Result Source FaultData
source_of None None = Err (record { pointer = key_pointer param_ref_pointer (codes "name"); kind = Missing })
source_of None (Some d) = Ok (Selected (selector_of (Some d)))
source_of (Some name) None = Ok (Named name)
source_of (Some name) (Some d) =
    Err (record { pointer = key_pointer param_ref_pointer (codes "selector"); kind = Beside (codes "name") })

unfoldable pub source_in : Data → Result Source FaultData
source_in d = do
  name ← text_of (key_pointer param_ref_pointer (codes "name")) Any (get (codes "name") d)
  selector ← selector_in param_ref_pointer (codes "/spec/paramRef/selector") (codes "selector") d
  source_of (unless_empty name) selector

-- whether `parameterNotFoundAction` is `Deny`
abbrev pub denies_in : Data → Result Bool FaultData
denies_in d = do
  action ← required_text (key_pointer param_ref_pointer (codes "parameterNotFoundAction"))
      (OneOf not_found_actions) (get (codes "parameterNotFoundAction") d)
  Ok (bytes_eq action (codes "Deny"))

unfoldable pub param_ref_of : Data → Result ParamRefData FaultData
param_ref_of d = do
  fields ← fields_fit param_ref_pointer param_ref_fields d
  source ← source_in d
  namespace ← text_of (key_pointer param_ref_pointer (codes "namespace")) Any (get (codes "namespace") d)
  denies ← denies_in d
  Ok (record { source = source; namespace = unless_empty namespace; denies = denies })

-- a part that may be missing
abbrev pub part_of : {A : Type 0} → (Data → Result A FaultData) → Option Data → Result (Option A) FaultData
part_of read None = Ok None
part_of read (Some d) = read d >>= (λ a. Ok (Some a))

abbrev pub param_ref_in : Data → Result (Option ParamRefData) FaultData
param_ref_in spec =
    object_of (key_pointer spec_pointer (codes "paramRef")) (get (codes "paramRef") spec) >>= part_of param_ref_of

-- ---- a binding's actions

abbrev pub actions_pointer : List ℕ
actions_pointer = key_pointer spec_pointer (codes "validationActions")

abbrev pub action_words : List (List ℕ)
action_words = codes "Deny" ∷ codes "Warn" ∷ codes "Audit" ∷ []

abbrev pub no_actions : ActionsData
no_actions = record { denies = false; warns = false; audits = false }

abbrev pub has_action : ActionsData → List ℕ → Bool
has_action had s =
    (had.denies && bytes_eq s (codes "Deny"))
    || ((had.warns && bytes_eq s (codes "Warn")) || (had.audits && bytes_eq s (codes "Audit")))

abbrev pub with_action : ActionsData → List ℕ → ActionsData
with_action had s = record {
  denies = had.denies || bytes_eq s (codes "Deny");
  warns = had.warns || bytes_eq s (codes "Warn");
  audits = had.audits || bytes_eq s (codes "Audit");
}

-- an action at a pointer, after those that were read
abbrev pub add_action : List ℕ → ActionsData → List ℕ → Result ActionsData FaultData
add_action p had s =
    if has_action had s then Err (record { pointer = p; kind = Repeated }) else Ok (with_action had s)

abbrev pub next_action : List ℕ → ActionsData → Data → Result ActionsData FaultData
next_action p had (string s) = formed p (OneOf action_words) s >>= add_action p had
next_action p had _ = Err (record { pointer = p; kind = NotString })

-- the actions from this index on, after those that were read
abbrev pub actions_after : ActionsData → ℕ → Items → Result ActionsData FaultData
actions_after had i no_items = Ok had
actions_after had i (item d ds) =
    next_action (index_pointer actions_pointer i) had d >>= (λ new. actions_after new (suc i) ds)

-- `Deny` and `Warn` may not be used together
abbrev pub unless_both : ActionsData → Result ActionsData FaultData
unless_both a =
    if a.denies && a.warns then Err (record { pointer = actions_pointer; kind = Beside (codes "Deny") }) else Ok a

abbrev pub actions_in : Data → Result ActionsData FaultData
actions_in spec =
    required_items actions_pointer (get (codes "validationActions") spec) >>= actions_after no_actions 0
    >>= unless_both

-- ---- a binding

abbrev pub binding_kinds : List (List ℕ)
binding_kinds = codes "ValidatingAdmissionPolicyBinding" ∷ []

abbrev pub binding_fields : List (List ℕ)
binding_fields = codes "policyName" ∷ codes "paramRef" ∷ codes "matchResources" ∷ codes "validationActions" ∷ []

abbrev pub match_resources_pointers : PointersData
match_resources_pointers = record {
  base = codes "/spec/matchResources";
  namespace_selector = codes "/spec/matchResources/namespaceSelector";
  object_selector = codes "/spec/matchResources/objectSelector";
}

abbrev pub match_resources_in : Data → Result (Option ConstraintsData) FaultData
match_resources_in spec =
    object_of (key_pointer spec_pointer (codes "matchResources")) (get (codes "matchResources") spec)
    >>= part_of (checked_constraints match_resources_pointers)

unfoldable pub binding_in : HeaderData → Result BindingData FaultData
binding_in h = do
  policy ← required_text (key_pointer spec_pointer (codes "policyName")) Filled (get (codes "policyName") h.spec)
  param_ref ← param_ref_in h.spec
  constraints ← match_resources_in h.spec
  actions ← actions_in h.spec
  Ok (record { name = h.name; policy = policy; param_ref = param_ref; constraints = constraints; actions = actions })

-- the binding in a document
abbrev pub binding_of : Data → Result BindingData FaultData
binding_of d = do
  type ← type_fits (OneOf binding_kinds) d
  header ← header_of d
  fields ← fields_fit spec_pointer binding_fields header.spec
  binding_in header

-- ---- what a policy is for

abbrev pub policy_kinds : List (List ℕ)
policy_kinds = codes "ValidatingAdmissionPolicy" ∷ []

abbrev pub param_kind_pointer : List ℕ
param_kind_pointer = codes "/spec/paramKind"

abbrev pub param_kind_fields : List (List ℕ)
param_kind_fields = codes "apiVersion" ∷ codes "kind" ∷ []

unfoldable pub param_kind_of : Data → Result ParamKindData FaultData
param_kind_of d = do
  fields ← fields_fit param_kind_pointer param_kind_fields d
  api_version ← required_text (key_pointer param_kind_pointer (codes "apiVersion")) Filled (get (codes "apiVersion") d)
  kind ← required_text (key_pointer param_kind_pointer (codes "kind")) Filled (get (codes "kind") d)
  Ok (record { api_version = api_version; kind = kind })

abbrev pub param_kind_in : Data → Result (Option ParamKindData) FaultData
param_kind_in spec =
    object_of (key_pointer spec_pointer (codes "paramKind")) (get (codes "paramKind") spec) >>= part_of param_kind_of

abbrev pub match_constraints_pointers : PointersData
match_constraints_pointers = record {
  base = codes "/spec/matchConstraints";
  namespace_selector = codes "/spec/matchConstraints/namespaceSelector";
  object_selector = codes "/spec/matchConstraints/objectSelector";
}

-- a policy has to have a resource rule; a binding need not
abbrev pub match_constraints_in : Data → Result ConstraintsData FaultData
match_constraints_in spec = do
  d ← required_object (key_pointer spec_pointer (codes "matchConstraints")) (get (codes "matchConstraints") spec)
  constraints ← checked_constraints match_constraints_pointers d
  rules ← required_items (key_pointer (codes "/spec/matchConstraints") (codes "resourceRules"))
      (get (codes "resourceRules") d)
  Ok constraints

unfoldable pub target_in : HeaderData → Result PolicyTargetData FaultData
target_in h = do
  param_kind ← param_kind_in h.spec
  constraints ← match_constraints_in h.spec
  Ok (record { name = h.name; param_kind = param_kind; constraints = constraints })

-- what the policy in a document is for
abbrev pub target_of : Data → Result PolicyTargetData FaultData
target_of d = do
  type ← type_fits (OneOf policy_kinds) d
  header ← header_of d
  target_in header

-- ---- views of the code's values

abbrev pub header_view : Header → HeaderData
header_view h = record { name = h.name.now; spec = view h.spec.now }

abbrev pub source_view : ParamSource → Source
source_view (code.Named name) = Named name.now
source_view (code.Selected selector) = Selected (selector_view selector)

abbrev pub param_ref_view : ParamRef → ParamRefData
param_ref_view r = record {
  source = source_view r.source;
  namespace = option_map (λ s. s.now) r.namespace;
  denies = r.denies;
}

abbrev pub actions_view : Actions → ActionsData
actions_view a = record { denies = a.denies; warns = a.warns; audits = a.audits }

abbrev pub binding_view : Binding → BindingData
binding_view b = record {
  name = b.name.now;
  policy = b.policy.now;
  param_ref = option_map param_ref_view b.param_ref;
  constraints = option_map constraints_view b.constraints;
  actions = actions_view b.actions;
}

abbrev pub param_kind_view : ParamKind → ParamKindData
param_kind_view k = record { api_version = k.api_version.now; kind = k.kind.now }

abbrev pub target_view : PolicyTarget → PolicyTargetData
target_view t = record {
  name = t.name.now;
  param_kind = option_map param_kind_view t.param_kind;
  constraints = constraints_view t.constraints;
}
