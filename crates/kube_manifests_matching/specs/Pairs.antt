-- Trusted by the clauses of other library calls.
-- Whether a policy applies to a request by a binding: Kubernetes documentation, "Validating Admission Policy" (Getting
-- started: a policy and its binding; matchResources narrows matchConstraints); API reference, ValidatingAdmissionPolicySpec
-- (matchConstraints) and ValidatingAdmissionPolicyBindingSpec (policyName, matchResources).
use Rattle.kube_manifests_bindings.specs.Bindings.{BindingData, PolicyTargetData}
use Rattle.kube_manifests_bindings.specs.Constraints.{ConstraintsData}
use Rattle.kube_manifests_matching.specs.Attributes.{AttributesData}
use Rattle.kube_manifests_matching.specs.Criteria.{and_also, with_constraints}
use Rattle.kube_manifests_matching.specs.Rules.{truth}
use Rattle.kube_manifests_matching.specs.declared.criteria.Applicability.{Applicability}
use Rattle.kube_manifests_matching.specs.declared.criteria.Applicability.TheVariants.{Applies, DoesNotApply, NotJudged}
use Rattle.kube_manifests_matching.specs.declared.criteria.Owner.TheVariants as owner
use Rattle.kube_manifests_matching.specs.declared.criteria.Reason.TheVariants.{Exempt, OtherPolicy}
use Rattle.std.specs.List.{list_any}
use Rattle.std.specs.Prelude.{ℕ, List, Bool, true, false, not, ◌&&◌, ◌||◌, Option, Some, None, codes}
use Rattle.std.specs.Str.{bytes_eq}

abbrev pub is_of_policies : List ℕ → Bool
is_of_policies plural =
    bytes_eq plural (codes "validatingadmissionpolicies") || bytes_eq plural (codes "validatingadmissionpolicybindings")

-- no policy applies to policies and bindings, so that a cluster can always be set right
abbrev pub is_exempt : AttributesData → Bool
is_exempt a = bytes_eq a.served.group (codes "admissionregistration.k8s.io") && is_of_policies a.resource

-- constraints that may be missing, which are met by every request
abbrev pub with_optional : Applicability → Option ConstraintsData → AttributesData → Applicability
with_optional had None a = had
with_optional had (Some c) a = with_constraints had owner.Binding c a

-- Both the constraints of the policy and those of the binding have to be met.
unfoldable pub applicability : PolicyTargetData → BindingData → AttributesData → Applicability
applicability p b a =
    let allowed = and_also Applies Exempt (truth (not (is_exempt a))) in
    let bound = and_also allowed OtherPolicy (truth (bytes_eq b.policy p.name)) in
    with_optional (with_constraints bound owner.Policy p.constraints a) b.constraints a

abbrev pub applies : Applicability → Bool
applies Applies = true
applies (DoesNotApply r) = false
applies (NotJudged r) = false

-- whether a policy applies to a request by one of these bindings
abbrev pub applies_by_any : PolicyTargetData → List BindingData → AttributesData → Bool
applies_by_any p bs a = list_any (λ b. applies (applicability p b a)) bs
