-- The items of a list, converted one by one.
use Rattle.std.proofs.Common.{◌≡◌, List, [], ◌∷◌, map, refl, ap}
use Rattle.serde_json.specs.View.{view as json_view, items_view as json_items_view}
use Rattle.serde_json.specs.declared.value.Value.{Value as Json}
use Rattle.cel_value.specs.Data.{item}
use Rattle.cel_value.specs.View.{items_of}
use Rattle.kube_schema_values.specs.Plain.{plain, plain_items}

pub plain_items_is : (vs : List Json) → plain_items (json_items_view vs) ≡ items_of (map (λ v. plain (json_view v)) vs)
unfolding plain_items
plain_items_is [] = refl
plain_items_is (v ∷ vs) = ap (item (plain (json_view v))) (plain_items_is vs)
