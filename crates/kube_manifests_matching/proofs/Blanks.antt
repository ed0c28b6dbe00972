-- Lists with and without items.
use Rattle.kube_manifests_bindings.specs.Constraints.{rules_of}
use Rattle.kube_manifests_matching.specs.Attributes.{AttributesData}
use Rattle.kube_manifests_matching.specs.Criteria.{any_or_none}
use Rattle.kube_manifests_matching.specs.Labels.{has_no_item, has_no_member}
use Rattle.kube_manifests_matching.specs.Rules.{any_matches}
use Rattle.kube_manifests_matching.specs.declared.truth.Truth.TheVariants.{Yes}
use Rattle.serde_json.proofs.Views.{Entry}
use Rattle.serde_json.specs.View.{items_view, members_view}
use Rattle.serde_json.specs.declared.value.Value.{Value as Json}
use Rattle.std.proofs.Common.{◌≡◌, ◌==◌, List, [], ◌∷◌, length, Bool, true, false, refl, arith}
use Rattle.std.proofs.lemmas.Bool.Decides.{Decides-eqb}
use lib.Dec.{eqb-suc-zero}

pub no_item_is : (vs : List Json) → (length vs == 0) ≡ has_no_item (items_view vs)
no_item_is [] = refl
no_item_is (v ∷ vs) = eqb-suc-zero (length vs)

pub no_member_is : (es : List Entry) → (length es == 0) ≡ has_no_member (members_view es)
no_member_is [] = refl
no_member_is (e ∷ es) = eqb-suc-zero (length es)

no_more : {A : Type 0} (x : A) (xs : List A) → (length (x ∷ xs) == 0) ≡ true → ⊥
no_more x xs e =
    let none : length (x ∷ xs) ≡ 0 = (Decides-eqb (length (x ∷ xs)) 0).0 e in
    omega (arith, none)

-- rules, of which there may be none
pub no_rules : (exact : Bool) (a : AttributesData) (vs : List Json) → (length vs == 0) ≡ true → Yes ≡ any_or_none exact (rules_of (items_view vs)) a
no_rules exact a [] e = refl
no_rules exact a (v ∷ vs) e = absurd (no_more v vs e)

pub some_rules : (exact : Bool) (a : AttributesData) (vs : List Json) → (length vs == 0) ≡ false
    → any_matches exact (rules_of (items_view vs)) a ≡ any_or_none exact (rules_of (items_view vs)) a
some_rules exact a [] e = cc
some_rules exact a (v ∷ vs) e = refl
