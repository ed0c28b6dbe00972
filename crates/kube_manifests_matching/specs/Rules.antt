-- Trusted by the clauses of other library calls.
-- Which requests a rule matches: Kubernetes API reference, NamedRuleWithOperations of `admissionregistration.k8s.io`;
-- Kubernetes documentation, "Dynamic Admission Control" (Matching requests: rules, matchPolicy).
use Rattle.kube_manifests_bindings.specs.Constraints.{RuleData}
use Rattle.kube_manifests_bindings.specs.declared.constraints.Scope.{Scope}
use Rattle.kube_manifests_bindings.specs.declared.constraints.Scope.TheVariants.{Whole, Cluster, Namespaced}
use Rattle.kube_manifests_matching.specs.Attributes.{AttributesData, EquivalentsData, NotKnown, Listed, Defined, operation_word}
use Rattle.kube_manifests_matching.specs.Labels.{has_no_item, has_text}
use Rattle.kube_manifests_matching.specs.declared.truth.Truth.{Truth}
use Rattle.kube_manifests_matching.specs.declared.truth.Truth.TheVariants.{Yes, No, Unknown}
use Rattle.kube_manifests_resources.specs.Builtins.{GroupVersionData}
use Rattle.kube_manifests_resources.specs.Resources.{served_name}
use Rattle.serde_json.specs.Data.{Items, no_items, item}
use Rattle.serde_json.specs.Find.{as_str}
use Rattle.std.specs.List.{after_first, before_first, list_any}
use Rattle.std.specs.Prelude.{ℕ, List, Bool, true, false, not, ◌==◌, ◌&&◌, ◌||◌, Option, Some, None, codes, if◌then◌else◌}
use Rattle.std.specs.Str.{bytes_eq}

-- ---- what a rule says, part by part

-- `*` stands for everything
abbrev pub is_listed : Items → List ℕ → Bool
is_listed listed s = has_text listed (codes "*") || has_text listed s

abbrev pub is_or_any : List ℕ → List ℕ → Bool
is_or_any pattern s = bytes_eq pattern (codes "*") || bytes_eq pattern s

-- a slash
abbrev pub is_slash : ℕ → Bool
is_slash b = b == 47

-- `pods` is pods, `pods/log` the subresource log of pods, `pods/*` pods with all its subresources, `*` all resources without
-- their subresources, `*/scale` all subresources scale, `*/*` all resources and their subresources
abbrev pub means : List ℕ → AttributesData → Bool
means pattern a =
    is_or_any (before_first is_slash pattern) a.resource && is_or_any (after_first is_slash pattern) a.subresource

abbrev pub text_means : Option (List ℕ) → AttributesData → Bool
text_means None a = false
text_means (Some pattern) a = means pattern a

abbrev pub any_means : Items → AttributesData → Bool
any_means no_items a = false
any_means (item d ds) a = text_means (as_str d) a || any_means ds a

-- Namespaces are of the cluster, though a request for one names it as its namespace.
abbrev pub is_of_namespaces : AttributesData → Bool
is_of_namespaces a = bytes_eq a.served.group (codes "") && bytes_eq a.resource (codes "namespaces")

abbrev pub is_namespaced : AttributesData → Bool
is_namespaced a = not (bytes_eq a.namespace (codes "")) && not (is_of_namespaces a)

abbrev pub in_scope : Scope → AttributesData → Bool
in_scope Whole a = true
in_scope Cluster a = not (is_namespaced a)
in_scope Namespaced a = is_namespaced a

-- no names are all names
abbrev pub is_named : Items → AttributesData → Bool
is_named names a = has_no_item names || has_text names a.name

-- ---- whole rules

-- all that a rule says but for the group and the version
abbrev pub matches_apart : RuleData → AttributesData → Bool
matches_apart r a =
    is_listed r.operations (operation_word a.operation)
    && (any_means r.resources a && (in_scope r.scope a && is_named r.names a))

-- a rule matches the request where the resource is asked for under this group and version
abbrev pub matches_under : GroupVersionData → RuleData → AttributesData → Bool
matches_under g r a =
    is_listed r.groups g.group && (is_listed r.versions g.version && matches_apart r a)

abbrev pub any_apart : List RuleData → AttributesData → Bool
any_apart rs a = list_any (λ r. matches_apart r a) rs

abbrev pub any_under : GroupVersionData → List RuleData → AttributesData → Bool
any_under g rs a = list_any (λ r. matches_under g r a) rs

abbrev pub any_equivalent : List GroupVersionData → List RuleData → AttributesData → Bool
any_equivalent gs rs a = list_any (λ g. any_under g rs a) gs

abbrev pub truth : Bool → Truth
truth true = Yes
truth false = No

-- under a version of this group, if it has a name
abbrev pub any_version : List ℕ → Option (List ℕ) → List RuleData → AttributesData → Bool
any_version group None rs a = false
any_version group (Some name) rs a = any_under (record { group = group; version = name }) rs a

abbrev pub any_defined : List ℕ → Items → List RuleData → AttributesData → Bool
any_defined group no_items rs a = false
any_defined group (item d ds) rs a =
    any_version group (served_name a.subresource d) rs a || any_defined group ds rs a

-- Where the equivalents of a resource aren't known, they are taken to have its plural name: whether one of them is
-- matched isn't known if the groups and versions of the rules decide it.
abbrev pub by_equivalents : EquivalentsData → List RuleData → AttributesData → Truth
by_equivalents NotKnown rs a = if any_apart rs a then Unknown else No
by_equivalents (Listed gs) rs a = truth (any_equivalent gs rs a)
by_equivalents (Defined group ds) rs a = truth (any_defined group ds rs a)

-- whether one of the rules matches the request: as it is asked for or, unless `matchPolicy` is `Exact`, under an
-- equivalent group and version
abbrev pub any_matches : Bool → List RuleData → AttributesData → Truth
any_matches true rs a = truth (any_under a.served rs a)
any_matches false rs a = if any_under a.served rs a then Yes else by_equivalents a.equivalents rs a
