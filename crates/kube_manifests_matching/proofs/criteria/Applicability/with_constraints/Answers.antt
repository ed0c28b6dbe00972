use Rattle.kube_manifests_bindings.specs.Constraints.{constraints_view}
use Rattle.kube_manifests_matching.proofs.Steps.{step}
use Rattle.kube_manifests_matching.proofs.criteria.Applicability.with_constraints.Goals as goal
use Rattle.kube_manifests_matching.specs.Attributes.{attributes_view}
use Rattle.kube_manifests_matching.specs.Criteria.{and_also, is_included, is_not_excluded, meets_namespace_selector, meets_object_selector}
use Rattle.kube_manifests_matching.specs.declared.criteria.Criterion.TheVariants.{NamespaceSelector, ObjectSelector, ExcludeResourceRules, ResourceRules}
use Rattle.kube_manifests_matching.specs.declared.criteria.Reason.TheVariants.{Constraint}
use Rattle.std.proofs.Common.{◌≡◌, refl, ap, ◌∙◌}

pub returns : goal.returns
returns c =
    let k = constraints_view c.args.constraints in
    let a = attributes_view c.args.attributes.now in
    let o = c.args.owner in
    let n : c.meets_namespace_selector-namespace.result ≡ meets_namespace_selector k.namespace_selector a =
    c.meets_namespace_selector-namespace.ensures ∙ ap (λ s. meets_namespace_selector s a) c.namespace_selector.ensures in
    let p : c.meets_object_selector-object.result ≡ meets_object_selector k.object_selector a =
    c.meets_object_selector-object.ensures ∙ ap (λ s. meets_object_selector s a) c.object_selector.ensures in
    let first = and_also c.args.self (Constraint o NamespaceSelector) (meets_namespace_selector k.namespace_selector a) in
    let second = and_also first (Constraint o ObjectSelector) (meets_object_selector k.object_selector a) in
    let third = and_also second (Constraint o ExcludeResourceRules) (is_not_excluded k a) in
    step c.and_also-3.result third (Constraint o ResourceRules) c.is_included.result (is_included k a) c.and_also-4.result c.and_also-4.ensures
    (step c.and_also-2.result second (Constraint o ExcludeResourceRules) c.is_not_excluded.result (is_not_excluded k a) c.and_also-3.result c.and_also-3.ensures
    (step c.and_also.result first (Constraint o ObjectSelector) c.meets_object_selector-object.result (meets_object_selector k.object_selector a) c.and_also-2.result c.and_also-2.ensures
    (step c.args.self c.args.self (Constraint o NamespaceSelector) c.meets_namespace_selector-namespace.result (meets_namespace_selector k.namespace_selector a) c.and_also.result c.and_also.ensures refl n)
    p) c.is_not_excluded.ensures) c.is_included.ensures
