-- `bound`, part by part.
use Rattle.std.proofs.Common.{◌≡◌, ℕ, suc, List, [], ◌∷◌, map, refl, ap}
use Rattle.serde_json.specs.Data as json
use Rattle.serde_json.specs.View.{view as json_view, items_view as json_items_view}
use Rattle.serde_json.specs.declared.value.Value.{Value as Json}
use Rattle.cel_value.specs.Data.{Data, item}
use Rattle.cel_value.specs.View.{items_of}
use Rattle.kube_schema_values.specs.Plain.{plain}
use Rattle.kube_schema_values.specs.Conversion.{ConversionAccessors, to_cel, to_cel_by, items_by}

module _ {S : Type 0} (accessors : ConversionAccessors S) where
  pub bound_past : (k : ℕ) (s : S) (d : json.Data) → k ≡ 0 → to_cel accessors k s d ≡ plain d
  unfolding to_cel
  bound_past k s d e = ap (λ k. to_cel accessors k s d) e

  pub bound_within : (k n : ℕ) (s : S) (d : json.Data) → k ≡ suc n → to_cel accessors k s d ≡ to_cel_by accessors (to_cel accessors n) s d
  unfolding to_cel
  bound_within k n s d e = ap (λ k. to_cel accessors k s d) e

pub items_by_is : (f : json.Data → Data) (vs : List Json) → items_by f (json_items_view vs) ≡ items_of (map (λ v. f (json_view v)) vs)
items_by_is f [] = refl
items_by_is f (v ∷ vs) = ap (item (f (json_view v))) (items_by_is f vs)
