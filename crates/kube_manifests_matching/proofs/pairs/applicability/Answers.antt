use Rattle.kube_manifests_bindings.specs.Bindings.{binding_view, target_view}
use Rattle.kube_manifests_matching.proofs.Steps.{step}
use Rattle.kube_manifests_matching.proofs.pairs.applicability.Goals as goal
use Rattle.kube_manifests_matching.specs.Attributes.{attributes_view}
use Rattle.kube_manifests_matching.specs.Criteria.{and_also, with_constraints}
use Rattle.kube_manifests_matching.specs.Pairs.{applicability, is_exempt, with_optional}
use Rattle.kube_manifests_matching.specs.Rules.{truth}
use Rattle.kube_manifests_matching.specs.declared.criteria.Applicability.TheVariants.{Applies}
use Rattle.kube_manifests_matching.specs.declared.criteria.Owner.TheVariants as owner
use Rattle.kube_manifests_matching.specs.declared.criteria.Reason.TheVariants.{Exempt, OtherPolicy}
use Rattle.std.proofs.Common.{◌≡◌, not, ap, ◌∙◌}
use Rattle.std.specs.Str.{bytes_eq}

pub returns : goal.returns
unfolding applicability
returns c =
    let p = target_view c.args.policy.now in
    let b = binding_view c.args.binding.now in
    let a = attributes_view c.args.attributes.now in
    let allowed = and_also Applies Exempt (truth (not (is_exempt a))) in
    let bound = and_also allowed OtherPolicy (truth (bytes_eq b.policy p.name)) in
    let free : c.truth.result ≡ truth (not (is_exempt a)) = c.truth.ensures ∙ ap (λ x. truth (not x)) c.is_exempt.ensures in
    let named : c.truth-2.result ≡ truth (bytes_eq b.policy p.name) = c.truth-2.ensures ∙ ap truth c.eq.ensures in
    let first : c.and_also.result ≡ allowed = c.and_also.ensures ∙ ap (and_also Applies Exempt) free in
    let second : c.and_also-2.result ≡ bound =
    step c.and_also.result allowed OtherPolicy c.truth-2.result (truth (bytes_eq b.policy p.name)) c.and_also-2.result c.and_also-2.ensures first named in
    c.with_optional.ensures
    ∙ ap (λ f. with_optional f b.constraints a)
    (c.with_constraints-found.ensures ∙ ap (λ h. with_constraints h owner.Policy p.constraints a) second)
