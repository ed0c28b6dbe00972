use Rattle.std.proofs.Common.{◌≡◌, Some, pos, rules}
use Rattle.kube_types.specs.Quantity.Normal.{quantity_holding}
use Rattle.kube_types.specs.Quantity.Shown.{number}
use Rattle.kube_types.specs.Quantity.Sums.{decimal_at}
use Rattle.kube_functions_types.proofs.Amounts.{held_is}
use Rattle.kube_functions_types.proofs.quantity.whole.Goals as goal

pub returns : goal.returns
returns c =
    let is_held : Some (number c.from_integer.result) ≡ quantity_holding (decimal_at c.args.integer (pos 0)) = search rules in
    held_is (number c.from_integer.result) (decimal_at c.args.integer (pos 0)) is_held
