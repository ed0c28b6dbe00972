-- Trusted by the clauses of other library calls.
-- Which requests constraints are for: Kubernetes API reference, MatchResources of `admissionregistration.k8s.io`
-- (namespaceSelector, objectSelector, resourceRules, excludeResourceRules, matchPolicy).
use Rattle.kube_manifests_bindings.specs.Constraints.{ConstraintsData, RuleData}
use Rattle.kube_manifests_bindings.specs.Selectors.{SelectorData}
use Rattle.kube_manifests_matching.specs.Attributes.{AttributesData}
use Rattle.kube_manifests_matching.specs.Labels.{can_have_labels, is_empty, labels_of, selects}
use Rattle.kube_manifests_matching.specs.Rules.{any_matches, is_of_namespaces, truth}
use Rattle.kube_manifests_matching.specs.declared.attributes.Operation.{Operation}
use Rattle.kube_manifests_matching.specs.declared.attributes.Operation.TheVariants.{Create, Update, Delete, Connect}
use Rattle.kube_manifests_matching.specs.declared.criteria.Applicability.{Applicability}
use Rattle.kube_manifests_matching.specs.declared.criteria.Applicability.TheVariants.{Applies, DoesNotApply, NotJudged}
use Rattle.kube_manifests_matching.specs.declared.criteria.Criterion.TheVariants.{NamespaceSelector, ObjectSelector, ExcludeResourceRules, ResourceRules}
use Rattle.kube_manifests_matching.specs.declared.criteria.Owner.{Owner}
use Rattle.kube_manifests_matching.specs.declared.criteria.Reason.{Reason}
use Rattle.kube_manifests_matching.specs.declared.criteria.Reason.TheVariants.{Constraint}
use Rattle.kube_manifests_matching.specs.declared.truth.Truth.{Truth}
use Rattle.kube_manifests_matching.specs.declared.truth.Truth.TheVariants.{Yes, No, Unknown}
use Rattle.serde_json.specs.Data.{Data}
use Rattle.std.specs.Prelude.{List, [], ◌∷◌, Bool, false, not, ◌&&◌, ◌||◌, Option, Some, None, codes, if◌then◌else◌}
use Rattle.std.specs.Str.{bytes_eq}

-- ---- one criterion

-- the Namespace that a request makes, changes or deletes
abbrev pub own_namespace : Operation → AttributesData → Option Data
own_namespace Create a = a.object
own_namespace Update a = a.object
own_namespace Delete a = a.old_object
own_namespace Connect a = None

-- The namespaceSelector looks at the Namespace of the object, or at the object itself if it is a Namespace.
abbrev pub namespace_of : AttributesData → Option Data
namespace_of a =
    if is_of_namespaces a && bytes_eq a.subresource (codes "") then own_namespace a.operation a else a.namespace_object

-- every namespaceSelector is met by what isn't in a namespace and is no Namespace
abbrev pub has_namespace : AttributesData → Bool
has_namespace a = not (bytes_eq a.namespace (codes "")) || is_of_namespaces a

abbrev pub namespace_selected : SelectorData → Option Data → Truth
namespace_selected s (Some d) = truth (selects s (labels_of d))
namespace_selected s None = Unknown

abbrev pub meets_namespace_selector : SelectorData → AttributesData → Truth
meets_namespace_selector s a =
    if not (has_namespace a) || is_empty s then Yes else namespace_selected s (namespace_of a)

-- null, and an object that can't have labels, isn't selected
abbrev pub is_selected : SelectorData → Option Data → Bool
is_selected s None = false
is_selected s (Some d) = can_have_labels d && selects s (labels_of d)

-- The objectSelector is met if it selects the object or the old object.
abbrev pub meets_object_selector : SelectorData → AttributesData → Truth
meets_object_selector s a = truth (is_empty s || (is_selected s a.object || is_selected s a.old_object))

abbrev pub negated : Truth → Truth
negated Yes = No
negated No = Yes
negated Unknown = Unknown

-- an excluding rule takes away what it matches
abbrev pub is_not_excluded : ConstraintsData → AttributesData → Truth
is_not_excluded c a = negated (any_matches c.is_exact c.excluded a)

-- no rules are all requests
abbrev pub any_or_none : Bool → List RuleData → AttributesData → Truth
any_or_none exact [] a = Yes
any_or_none exact (r ∷ rs) a = any_matches exact (r ∷ rs) a

abbrev pub is_included : ConstraintsData → AttributesData → Truth
is_included c a = any_or_none c.is_exact c.rules a

-- ---- one criterion after another

abbrev pub fails : Applicability → Reason → Applicability
fails Applies r = DoesNotApply r
fails (NotJudged q) r = DoesNotApply r
fails (DoesNotApply q) r = DoesNotApply q

abbrev pub doubts : Applicability → Reason → Applicability
doubts Applies r = NotJudged r
doubts (NotJudged q) r = NotJudged q
doubts (DoesNotApply q) r = DoesNotApply q

-- The first criterion that isn't met decides. If there is none, the first one decides of which it isn't known.
abbrev pub and_also : Applicability → Reason → Truth → Applicability
and_also had r Yes = had
and_also had r No = fails had r
and_also had r Unknown = doubts had r

-- the criteria of constraints, in this order
abbrev pub with_constraints : Applicability → Owner → ConstraintsData → AttributesData → Applicability
with_constraints had owner c a =
    let first = and_also had (Constraint owner NamespaceSelector) (meets_namespace_selector c.namespace_selector a) in
    let second = and_also first (Constraint owner ObjectSelector) (meets_object_selector c.object_selector a) in
    let third = and_also second (Constraint owner ExcludeResourceRules) (is_not_excluded c a) in
    and_also third (Constraint owner ResourceRules) (is_included c a)
