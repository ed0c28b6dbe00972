-- Trusted by laws alone.
-- What adding a rule, an exclusion or an empty selector changes, and what policies without a binding do.
use Rattle.kube_manifests_bindings.specs.Bindings.{BindingData, PolicyTargetData}
use Rattle.kube_manifests_bindings.specs.Constraints.{ConstraintsData, RuleData}
use Rattle.kube_manifests_bindings.specs.Selectors.{SelectorData}
use Rattle.kube_manifests_matching.specs.Attributes.{AttributesData}
use Rattle.kube_manifests_matching.specs.Criteria.{meets_namespace_selector, meets_object_selector, with_constraints}
use Rattle.kube_manifests_matching.specs.Pairs.{applicability, applies_by_any}
use Rattle.kube_manifests_matching.specs.Rules.{any_matches}
use Rattle.kube_manifests_matching.specs.declared.criteria.Applicability.TheVariants.{Applies}
use Rattle.kube_manifests_matching.specs.declared.criteria.Owner.{Owner}
use Rattle.kube_manifests_matching.specs.declared.truth.Truth.TheVariants.{Yes}
use Rattle.serde_json.specs.Data.{no_items, no_members}
use Rattle.std.specs.Prelude.{◌≡◌, ◌≢◌, List, [], ◌∷◌, ◌++◌, true, false}

-- the constraints with more exclusions
abbrev pub excluding : ConstraintsData → List RuleData → ConstraintsData
excluding c more = record {
  namespace_selector = c.namespace_selector;
  object_selector = c.object_selector;
  rules = c.rules;
  excluded = c.excluded ++ more;
  is_exact = c.is_exact;
}

-- an exclusion only takes away
abbrev pub ExclusionsTakeAway : Type 0
ExclusionsTakeAway = (owner : Owner) (c : ConstraintsData) (more : List RuleData) (a : AttributesData)
    → with_constraints Applies owner (excluding c more) a ≡ Applies → with_constraints Applies owner c a ≡ Applies

-- one more rule only adds, where there are rules
abbrev pub RulesAdd : Type 0
RulesAdd = (owner : Owner) (c : ConstraintsData) (r : RuleData) (rs more : List RuleData) (a : AttributesData)
    → c.rules ≡ r ∷ rs → with_constraints Applies owner c a ≡ Applies
    → with_constraints Applies owner (record c { rules = c.rules ++ more }) a ≡ Applies

abbrev pub empty_selector : SelectorData
empty_selector = record { labels = no_members; requirements = no_items }

-- an empty selector is met by every request
abbrev pub EmptySelectorsAreMet : Type 0
EmptySelectorsAreMet = (a : AttributesData)
    → (meets_namespace_selector empty_selector a ≡ Yes) × (meets_object_selector empty_selector a ≡ Yes)

-- a policy without a binding applies to nothing, and neither does one whose bindings are those of other policies
abbrev pub UnboundApplyToNothing : Type 0
UnboundApplyToNothing = (p : PolicyTargetData) (a : AttributesData) → applies_by_any p [] a ≡ false

abbrev pub OthersBindNothing : Type 0
OthersBindNothing = (p : PolicyTargetData) (b : BindingData) (a : AttributesData)
    → b.policy ≢ p.name → applicability p b a ≢ Applies

-- what `Exact` matches, `Equivalent` matches
abbrev pub EquivalentMatchesMore : Type 0
EquivalentMatchesMore = (rs : List RuleData) (a : AttributesData) → any_matches true rs a ≡ Yes → any_matches false rs a ≡ Yes
