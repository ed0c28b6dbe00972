-- What adding a rule, an exclusion or an empty selector changes, and what policies without a binding do.
use Rattle.kube_manifests_bindings.specs.Constraints.{ConstraintsData, RuleData}
use Rattle.kube_manifests_matching.proofs.Monotone.{matches_less, matches_more, yes_true}
use Rattle.kube_manifests_matching.specs.Attributes.{AttributesData}
use Rattle.kube_manifests_matching.specs.Criteria.{and_also, any_or_none, has_namespace, is_included, is_not_excluded, meets_namespace_selector, meets_object_selector, namespace_of, namespace_selected, negated, with_constraints}
use Rattle.kube_manifests_matching.specs.Laws.{EmptySelectorsAreMet, EquivalentMatchesMore, ExclusionsTakeAway, OthersBindNothing, RulesAdd, UnboundApplyToNothing, empty_selector, excluding}
use Rattle.kube_manifests_matching.specs.Pairs.{applicability, is_exempt, with_optional}
use Rattle.kube_manifests_matching.specs.Rules.{any_matches, any_under, by_equivalents, truth}
use Rattle.kube_manifests_matching.specs.declared.criteria.Applicability.{Applicability}
use Rattle.kube_manifests_matching.specs.declared.criteria.Applicability.TheVariants.{Applies, DoesNotApply, NotJudged}
use Rattle.kube_manifests_matching.specs.declared.criteria.Criterion.TheVariants.{NamespaceSelector, ObjectSelector, ExcludeResourceRules, ResourceRules}
use Rattle.kube_manifests_matching.specs.declared.criteria.Owner.{Owner}
use Rattle.kube_manifests_matching.specs.declared.criteria.Owner.TheVariants as owner
use Rattle.kube_manifests_matching.specs.declared.criteria.Reason.{Reason}
use Rattle.kube_manifests_matching.specs.declared.criteria.Reason.TheVariants.{Exempt, OtherPolicy, Constraint}
use Rattle.kube_manifests_matching.specs.declared.truth.Truth.{Truth}
use Rattle.kube_manifests_matching.specs.declared.truth.Truth.TheVariants.{Yes, No, Unknown}
use Rattle.std.proofs.Common.{◌≡◌, List, ◌∷◌, ◌++◌, Bool, true, false, not, ◌||◌, if◌then◌else◌, Option, Some, None, refl, sym, ap, ◌∙◌, subst}
use Rattle.std.proofs.lemmas.Slice.Eq.{bytes_eq-Decides}
use Rattle.std.specs.Str.{bytes_eq}

-- ---- criteria

-- all criteria are met
record Met (owner : Owner) (had : Applicability) (c : ConstraintsData) (a : AttributesData) : Type 0 where
  before : had ≡ Applies
  namespace : meets_namespace_selector c.namespace_selector a ≡ Yes
  object : meets_object_selector c.object_selector a ≡ Yes
  excluded : is_not_excluded c a ≡ Yes
  included : is_included c a ≡ Yes

parts : (had : Applicability) (r : Reason) (t : Truth) → and_also had r t ≡ Applies → (had ≡ Applies) × (t ≡ Yes)
parts had r Yes e = (e, refl)
parts Applies r No e = cc
parts (NotJudged q) r No e = cc
parts (DoesNotApply q) r No e = cc
parts Applies r Unknown e = cc
parts (NotJudged q) r Unknown e = cc
parts (DoesNotApply q) r Unknown e = cc

whole : (had : Applicability) (r : Reason) (t : Truth) → had ≡ Applies → t ≡ Yes → and_also had r t ≡ Applies
whole had r t e f = ap (λ h. and_also h r t) e ∙ ap (and_also Applies r) f

met : (owner : Owner) (had : Applicability) (c : ConstraintsData) (a : AttributesData) → with_constraints had owner c a ≡ Applies → Met owner had c a
met owner had c a e =
    let first = and_also had (Constraint owner NamespaceSelector) (meets_namespace_selector c.namespace_selector a) in
    let second = and_also first (Constraint owner ObjectSelector) (meets_object_selector c.object_selector a) in
    let third = and_also second (Constraint owner ExcludeResourceRules) (is_not_excluded c a) in
    let last = parts third (Constraint owner ResourceRules) (is_included c a) e in
    let upper = parts second (Constraint owner ExcludeResourceRules) (is_not_excluded c a) last.0 in
    let lower = parts first (Constraint owner ObjectSelector) (meets_object_selector c.object_selector a) upper.0 in
    let lowest = parts had (Constraint owner NamespaceSelector) (meets_namespace_selector c.namespace_selector a) lower.0 in
    record { before = lowest.0; namespace = lowest.1; object = lower.1; excluded = upper.1; included = last.1 }

all_met : (owner : Owner) (had : Applicability) (c : ConstraintsData) (a : AttributesData) → Met owner had c a → with_constraints had owner c a ≡ Applies
all_met owner had c a m =
    let first = and_also had (Constraint owner NamespaceSelector) (meets_namespace_selector c.namespace_selector a) in
    let second = and_also first (Constraint owner ObjectSelector) (meets_object_selector c.object_selector a) in
    let third = and_also second (Constraint owner ExcludeResourceRules) (is_not_excluded c a) in
    whole third (Constraint owner ResourceRules) (is_included c a)
    (whole second (Constraint owner ExcludeResourceRules) (is_not_excluded c a)
    (whole first (Constraint owner ObjectSelector) (meets_object_selector c.object_selector a)
    (whole had (Constraint owner NamespaceSelector) (meets_namespace_selector c.namespace_selector a) m.before m.namespace) m.object) m.excluded) m.included

negated_yes : (t : Truth) → negated t ≡ Yes → t ≡ No
negated_yes Yes e = cc
negated_yes No e = refl
negated_yes Unknown e = cc

-- ---- the laws

pub exclusions : ExclusionsTakeAway
exclusions owner c more a e =
    let m = met owner Applies (excluding c more) a e in
    let less = matches_less a c.excluded more c.is_exact (negated_yes (any_matches c.is_exact (c.excluded ++ more) a) m.excluded) in
    all_met owner Applies c a (record {
      before = refl;
      namespace = m.namespace;
      object = m.object;
      excluded = ap negated less;
      included = m.included;
    })

included_more : (exact : Bool) (r : RuleData) (rs more : List RuleData) (a : AttributesData) (all : List RuleData) → all ≡ r ∷ rs
    → any_or_none exact all a ≡ Yes → any_or_none exact (all ++ more) a ≡ Yes
included_more exact r rs more a all e =
    let P : List RuleData → Type 0 = λ xs. any_or_none exact xs a ≡ Yes → any_or_none exact (xs ++ more) a ≡ Yes in
    subst P (sym e) (matches_more a (r ∷ rs) more exact)

pub rules : RulesAdd
rules owner c r rs more a is e =
    let m = met owner Applies c a e in
    all_met owner Applies (record c { rules = c.rules ++ more }) a (record {
      before = refl;
      namespace = m.namespace;
      object = m.object;
      excluded = m.excluded;
      included = included_more c.is_exact r rs more a c.rules is m.included;
    })

or_true : (b : Bool) → (b || true) ≡ true
or_true true = refl
or_true false = refl

pub empty : EmptySelectorsAreMet
empty a = (
  ap (λ b. if b then Yes else namespace_selected empty_selector (namespace_of a)) (or_true (not (has_namespace a))),
  refl,
)

pub unbound : UnboundApplyToNothing
unbound p a = refl

optional : (had : Applicability) (o : Option ConstraintsData) (a : AttributesData) → with_optional had o a ≡ Applies → had ≡ Applies
optional had None a e = e
optional had (Some c) a e = (met owner.Binding had c a e).before

pub others : OthersBindNothing
unfolding applicability
others p b a differs e =
    let allowed = and_also Applies Exempt (truth (not (is_exempt a))) in
    let bound = and_also allowed OtherPolicy (truth (bytes_eq b.policy p.name)) in
    let all = optional (with_constraints bound owner.Policy p.constraints a) b.constraints a e in
    let named = parts allowed OtherPolicy (truth (bytes_eq b.policy p.name)) (met owner.Policy bound p.constraints a all).before in
    differs ((bytes_eq-Decides b.policy p.name).0 (yes_true (bytes_eq b.policy p.name) named.1))

pub equivalent : EquivalentMatchesMore
equivalent rs a e = ap (λ b. if b then Yes else by_equivalents a.equivalents rs a) (yes_true (any_under a.served rs a) e)
