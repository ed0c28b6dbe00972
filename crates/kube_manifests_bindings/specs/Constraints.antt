-- Trusted by the clauses of other library calls.
-- Which requests a policy or a binding is for, and its shape: Kubernetes API reference, MatchResources and
-- NamedRuleWithOperations of `admissionregistration.k8s.io`.
use Rattle.kube_manifests_bindings.specs.Faults.{FaultData}
use Rattle.kube_manifests_bindings.specs.Fields.{Shape, Any, Filled, OneOf, each_fits, fields_fit, items_in, items_of, list_fits, required_list_fits, text_in, text_of}
use Rattle.kube_manifests_bindings.specs.Selectors.{SelectorData, selector_in, selector_of}
use Rattle.kube_manifests_bindings.specs.declared.constraints.Constraints.{Constraints}
use Rattle.kube_manifests_bindings.specs.declared.constraints.Pointers.{Pointers}
use Rattle.kube_manifests_bindings.specs.declared.constraints.Rule.{Rule}
use Rattle.kube_manifests_bindings.specs.declared.constraints.Scope.{Scope}
use Rattle.kube_manifests_bindings.specs.declared.constraints.Scope.TheVariants.{Whole, Cluster, Namespaced}
use Rattle.kube_manifests_documents.specs.Faults.{◌>>=◌}
use Rattle.kube_manifests_documents.specs.Pointers.{key_pointer, keyword_pointer}
use Rattle.serde_json.specs.Data.{Data, Items, no_items, item}
use Rattle.serde_json.specs.Find.{get}
use Rattle.serde_json.specs.View.{items_view, view}
use Rattle.std.specs.Prelude.{ℕ, List, [], ◌∷◌, Bool, Result, Ok, codes, if◌then◌else◌}
use Rattle.std.specs.Str.{bytes_eq}

-- ---- what they ask for

-- the items of its lists are strings
pub record RuleData : Type 0 where
  pub operations : Items
  pub groups : Items
  pub versions : Items
  pub resources : Items
  -- `resourceNames`: those of any object, if there are none
  pub names : Items
  pub scope : Scope

pub record ConstraintsData : Type 0 where
  pub namespace_selector : SelectorData
  pub object_selector : SelectorData
  -- `resourceRules`
  pub rules : List RuleData
  -- `excludeResourceRules`
  pub excluded : List RuleData
  -- whether `matchPolicy` is `Exact`; the default is `Equivalent`
  pub is_exact : Bool

-- the default is `*`
abbrev pub scope_of : List ℕ → Scope
scope_of s =
    if bytes_eq s (codes "Cluster") then Cluster else (if bytes_eq s (codes "Namespaced") then Namespaced else Whole)

abbrev pub rule_of : Data → RuleData
rule_of d = record {
  operations = items_in (get (codes "operations") d);
  groups = items_in (get (codes "apiGroups") d);
  versions = items_in (get (codes "apiVersions") d);
  resources = items_in (get (codes "resources") d);
  names = items_in (get (codes "resourceNames") d);
  scope = scope_of (text_in (get (codes "scope") d));
}

abbrev pub rules_of : Items → List RuleData
rules_of no_items = []
rules_of (item d ds) = rule_of d ∷ rules_of ds

-- what is missing has its default: an empty selector, no rules
abbrev pub constraints_of : Data → ConstraintsData
constraints_of d = record {
  namespace_selector = selector_of (get (codes "namespaceSelector") d);
  object_selector = selector_of (get (codes "objectSelector") d);
  rules = rules_of (items_in (get (codes "resourceRules") d));
  excluded = rules_of (items_in (get (codes "excludeResourceRules") d));
  is_exact = bytes_eq (text_in (get (codes "matchPolicy") d)) (codes "Exact");
}

-- ---- their shape

abbrev pub rule_fields : List (List ℕ)
rule_fields =
    codes "resourceNames" ∷ codes "operations" ∷ codes "apiGroups" ∷ codes "apiVersions"
    ∷ codes "resources" ∷ codes "scope" ∷ []

abbrev pub operations : List (List ℕ)
operations = codes "*" ∷ codes "CREATE" ∷ codes "UPDATE" ∷ codes "DELETE" ∷ codes "CONNECT" ∷ []

abbrev pub scopes : List (List ℕ)
scopes = codes "*" ∷ codes "Cluster" ∷ codes "Namespaced" ∷ []

-- the lists that a rule has to have; the group of the core API is the empty text
abbrev pub needed_lists_fit : List ℕ → Data → Shape
needed_lists_fit p d = do
  operations ← required_list_fits (key_pointer p (codes "operations")) (OneOf operations) (get (codes "operations") d)
  groups ← required_list_fits (key_pointer p (codes "apiGroups")) Any (get (codes "apiGroups") d)
  versions ← required_list_fits (key_pointer p (codes "apiVersions")) Filled (get (codes "apiVersions") d)
  required_list_fits (key_pointer p (codes "resources")) Filled (get (codes "resources") d)

abbrev pub rule_fits : List ℕ → Data → Shape
rule_fits p d = do
  fields ← fields_fit p rule_fields d
  lists ← needed_lists_fit p d
  names ← list_fits (key_pointer p (codes "resourceNames")) Any (get (codes "resourceNames") d)
  scope ← text_of (key_pointer p (codes "scope")) (OneOf scopes) (get (codes "scope") d)
  Ok tt

-- the rules in a field of the object at this pointer
abbrev pub rules_fit : List ℕ → List ℕ → Data → Shape
rules_fit p name d = items_of (key_pointer p name) (get name d) >>= each_fits rule_fits (keyword_pointer p name) 0

abbrev pub constraints_fields : List (List ℕ)
constraints_fields =
    codes "namespaceSelector" ∷ codes "objectSelector" ∷ codes "resourceRules"
    ∷ codes "excludeResourceRules" ∷ codes "matchPolicy" ∷ []

abbrev pub match_policies : List (List ℕ)
match_policies = codes "Exact" ∷ codes "Equivalent" ∷ []

abbrev pub rule_lists_fit : List ℕ → Data → Shape
rule_lists_fit base d = do
  rules ← rules_fit base (codes "resourceRules") d
  excluded ← rules_fit base (codes "excludeResourceRules") d
  match_policy ← text_of (key_pointer base (codes "matchPolicy")) (OneOf match_policies) (get (codes "matchPolicy") d)
  Ok tt

-- where constraints are, and their selectors
pub record PointersData : Type 0 where
  pub base : List ℕ
  pub namespace_selector : List ℕ
  pub object_selector : List ℕ

abbrev pub constraints_fit : PointersData → Data → Shape
constraints_fit ps d = do
  fields ← fields_fit ps.base constraints_fields d
  namespace ← selector_in ps.base ps.namespace_selector (codes "namespaceSelector") d
  object ← selector_in ps.base ps.object_selector (codes "objectSelector") d
  rule_lists_fit ps.base d

-- the constraints in a value that has their shape
abbrev pub checked_constraints : PointersData → Data → Result ConstraintsData FaultData
checked_constraints ps d = constraints_fit ps d >>= (λ t. Ok (constraints_of d))

-- ---- views of the code's values

abbrev pub pointers_view : Pointers → PointersData
pointers_view ps = record {
  base = ps.base.now;
  namespace_selector = ps.namespace_selector.now;
  object_selector = ps.object_selector.now;
}

abbrev pub rule_view : Rule → RuleData
rule_view r = record {
  operations = items_view r.operations.now;
  groups = items_view r.groups.now;
  versions = items_view r.versions.now;
  resources = items_view r.resources.now;
  names = items_view r.names.now;
  scope = r.scope;
}

abbrev pub constraints_view : Constraints → ConstraintsData
constraints_view c = constraints_of (view c.value.now)
