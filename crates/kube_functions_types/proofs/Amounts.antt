-- Integers as quantities.
use Rattle.std.proofs.Common.{◌≡◌, Bool, true, false, cond, Some, None}
use Rattle.kube_types.specs.Quantity.Decimal.{Decimal}
use Rattle.kube_types.specs.Quantity.Normal.{fits, quantity_holding, normal_form}

chosen : (t : Bool) (q r : Decimal) → Some q ≡ cond t (Some r) None → q ≡ r
chosen true q r e = cc
chosen false q r e = cc

-- a quantity holds a number in its normal form
pub held_is : (q x : Decimal) → Some q ≡ quantity_holding x → q ≡ normal_form x
unfolding quantity_holding
held_is q x e = chosen (fits 31 (normal_form x).scale) q (normal_form x) e
