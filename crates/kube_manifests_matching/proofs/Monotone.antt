-- More rules match more.
use Rattle.kube_manifests_bindings.specs.Constraints.{RuleData}
use Rattle.kube_manifests_matching.specs.Attributes.{AttributesData, EquivalentsData, NotKnown, Listed, Defined}
use Rattle.kube_manifests_resources.specs.Builtins.{GroupVersionData}
use Rattle.kube_manifests_resources.specs.Resources.{served_name}
use Rattle.serde_json.specs.Data.{Items, no_items, item}
use Rattle.kube_manifests_matching.specs.Rules.{any_apart, any_defined, any_equivalent, any_matches, any_under, any_version, by_equivalents, matches_apart, matches_under, truth}
use Rattle.kube_manifests_matching.specs.declared.truth.Truth.{Truth}
use Rattle.kube_manifests_matching.specs.declared.truth.Truth.TheVariants.{Yes, No, Unknown}
use Rattle.std.proofs.Common.{◌≡◌, ℕ, List, [], ◌∷◌, ◌++◌, Bool, true, false, ◌||◌, if◌then◌else◌, Option, Some, None, refl, sym, ap, ◌∙◌}
use Rattle.std.proofs.lemmas.List.Folds.{list_any-append}
use Rattle.std.specs.List.{list_any}

-- ---- tests

-- the second holds where the first does
abbrev pub Leads : Bool → Bool → Type 0
Leads b c = b ≡ true → c ≡ true

pub back : (b c : Bool) → Leads b c → c ≡ false → b ≡ false
back true c f e = let no : true ≡ false = sym (f refl) ∙ e in cc
back false c f e = refl

either : (a b c d : Bool) → Leads a c → Leads b d → Leads (a || b) (c || d)
either true b c d f g e = ap (λ x. x || d) (f refl)
either false b true d f g e = refl
either false b false d f g e = g e

any_more : {A : Type 0} (p : A → Bool) (xs ys : List A) → Leads (list_any p xs) (list_any p (xs ++ ys))
any_more p xs ys e = list_any-append p xs ys ∙ ap (λ b. b || list_any p ys) e

pub yes_true : (b : Bool) → truth b ≡ Yes → b ≡ true
yes_true true e = refl
yes_true false e = cc

pub no_false : (b : Bool) → truth b ≡ No → b ≡ false
no_false true e = cc
no_false false e = refl

truth_yes : (b c : Bool) → Leads b c → truth b ≡ Yes → truth c ≡ Yes
truth_yes b c f e = ap truth (f (yes_true b e))

truth_no : (b c : Bool) → Leads b c → truth c ≡ No → truth b ≡ No
truth_no b c f e = ap truth (back b c f (no_false c e))

or_else_yes : (b c : Bool) (t u : Truth) → Leads b c → (t ≡ Yes → u ≡ Yes) → (if b then Yes else t) ≡ Yes → (if c then Yes else u) ≡ Yes
or_else_yes true c t u f g e = ap (λ x. if x then Yes else u) (f refl)
or_else_yes false true t u f g e = refl
or_else_yes false false t u f g e = g e

or_else_no : (b c : Bool) (t u : Truth) → Leads b c → (u ≡ No → t ≡ No) → (if c then Yes else u) ≡ No → (if b then Yes else t) ≡ No
or_else_no true c t u f g e = let no : Yes ≡ No = sym (ap (λ x. if x then Yes else u) (f refl)) ∙ e in cc
or_else_no false true t u f g e = cc
or_else_no false false t u f g e = g e

doubt_no : (b : Bool) → (if b then Unknown else No) ≡ No → b ≡ false
doubt_no true e = cc
doubt_no false e = refl

doubt_yes : (b : Bool) → (if b then Unknown else No) ≡ Yes → ⊥
doubt_yes true e = cc
doubt_yes false e = cc

-- ---- rules

module _ (a : AttributesData) (rs more : List RuleData) where
  under_more : (g : GroupVersionData) → Leads (any_under g rs a) (any_under g (rs ++ more) a)
  under_more g = any_more (λ r. matches_under g r a) rs more

  apart_more : Leads (any_apart rs a) (any_apart (rs ++ more) a)
  apart_more = any_more (λ r. matches_apart r a) rs more

  equivalent_more : (gs : List GroupVersionData) → Leads (any_equivalent gs rs a) (any_equivalent gs (rs ++ more) a)
  equivalent_more [] e = e
  equivalent_more (g ∷ gs) e =
      either (any_under g rs a) (any_equivalent gs rs a) (any_under g (rs ++ more) a) (any_equivalent gs (rs ++ more) a)
      (under_more g) (equivalent_more gs) e

  version_more : (group : List ℕ) (name : Option (List ℕ)) → Leads (any_version group name rs a) (any_version group name (rs ++ more) a)
  version_more group None e = e
  version_more group (Some name) e = under_more (record { group = group; version = name }) e

  defined_more : (group : List ℕ) (ds : Items) → Leads (any_defined group ds rs a) (any_defined group ds (rs ++ more) a)
  defined_more group no_items e = e
  defined_more group (item d ds) e =
      let name = served_name a.subresource d in
      either (any_version group name rs a) (any_defined group ds rs a) (any_version group name (rs ++ more) a) (any_defined group ds (rs ++ more) a)
      (version_more group name) (defined_more group ds) e

  by_yes : (gs : EquivalentsData) → by_equivalents gs rs a ≡ Yes → by_equivalents gs (rs ++ more) a ≡ Yes
  by_yes (Listed gs) e = truth_yes (any_equivalent gs rs a) (any_equivalent gs (rs ++ more) a) (equivalent_more gs) e
  by_yes (Defined group ds) e = truth_yes (any_defined group ds rs a) (any_defined group ds (rs ++ more) a) (defined_more group ds) e
  by_yes NotKnown e = absurd (doubt_yes (any_apart rs a) e)

  by_no : (gs : EquivalentsData) → by_equivalents gs (rs ++ more) a ≡ No → by_equivalents gs rs a ≡ No
  by_no (Listed gs) e = truth_no (any_equivalent gs rs a) (any_equivalent gs (rs ++ more) a) (equivalent_more gs) e
  by_no (Defined group ds) e = truth_no (any_defined group ds rs a) (any_defined group ds (rs ++ more) a) (defined_more group ds) e
  by_no NotKnown e = ap (λ b. if b then Unknown else No) (back (any_apart rs a) (any_apart (rs ++ more) a) apart_more (doubt_no (any_apart (rs ++ more) a) e))

  pub matches_more : (exact : Bool) → any_matches exact rs a ≡ Yes → any_matches exact (rs ++ more) a ≡ Yes
  matches_more true e = truth_yes (any_under a.served rs a) (any_under a.served (rs ++ more) a) (under_more a.served) e
  matches_more false e =
      or_else_yes (any_under a.served rs a) (any_under a.served (rs ++ more) a) (by_equivalents a.equivalents rs a) (by_equivalents a.equivalents (rs ++ more) a)
      (under_more a.served) (by_yes a.equivalents) e

  pub matches_less : (exact : Bool) → any_matches exact (rs ++ more) a ≡ No → any_matches exact rs a ≡ No
  matches_less true e = truth_no (any_under a.served rs a) (any_under a.served (rs ++ more) a) (under_more a.served) e
  matches_less false e =
      or_else_no (any_under a.served rs a) (any_under a.served (rs ++ more) a) (by_equivalents a.equivalents rs a) (by_equivalents a.equivalents (rs ++ more) a)
      (under_more a.served) (by_no a.equivalents) e
