-- The items of a list.
use Rattle.kubecel_io.specs.Objects.{each_item}
use Rattle.serde_json.specs.View.{items_view, view}
use Rattle.serde_json.specs.declared.value.Value.{Value}
use Rattle.std.proofs.Common.{◌≡◌, List, [], ◌∷◌, map, refl, ap}

pub items_each : (vs : List Value) → each_item (items_view vs) ≡ map view vs
items_each [] = refl
items_each (v ∷ vs) = ap (λ ds. view v ∷ ds) (items_each vs)
