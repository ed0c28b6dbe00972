-- Empty lists and objects.
use Rattle.kube_manifests_names.specs.Requests.{has_no_item, has_no_member}
use Rattle.serde_json.proofs.Views.{Entry}
use Rattle.serde_json.specs.View.{items_view, members_view}
use Rattle.serde_json.specs.declared.value.Value.{Value as Json}
use Rattle.std.proofs.Common.{◌≡◌, ◌==◌, List, [], ◌∷◌, length, refl, sym}
use lib.Dec.{eqb-suc-zero}

pub no_item_is : (vs : List Json) → has_no_item (items_view vs) ≡ (length vs == 0)
no_item_is [] = refl
no_item_is (v ∷ vs) = sym (eqb-suc-zero (length vs))

pub no_member_is : (es : List Entry) → has_no_member (members_view es) ≡ (length es == 0)
no_member_is [] = refl
no_member_is (e ∷ es) = sym (eqb-suc-zero (length es))
