use Rattle.std.proofs.Common.{◌∙◌, rules, FitsSigned}
use Rattle.std.proofs.lemmas.Int.{to_z-of_z}
use Rattle.std.specs.Int.{w128}
use Rattle.kube_types.specs.Quantity.Shown.{number}
use Rattle.kube_types.specs.Quantity.Sums.{difference_of}
use Rattle.kube_types.proofs.Quantity.Meanings.{difference_is}
use Rattle.kube_types.proofs.quantities.quantity.KubeQuantity.sub.Goals as goal

pub returns-in_err-left : goal.returns-in_err-left
unfolding difference_of
returns-in_err-left c = search rules

pub returns-in_err-right : goal.returns-in_err-right
unfolding difference_of
returns-in_err-right c = search rules

pub returns-in_err-difference : goal.returns-in_err-difference
unfolding difference_of
returns-in_err-difference c = search rules

pub returns : goal.returns
returns c =
    let l_fits : FitsSigned w128 c.in_ok-left.left = search rules in
    let r_fits : FitsSigned w128 c.in_ok-right.right = search rules in
    let z_fits : FitsSigned w128 c.in_ok-difference.difference = search rules in
    let total = simp to_z-of_z at c.in_ok-difference.ensures in
    let result = simp to_z-of_z at c.at_smaller_scale.ensures in
    result ∙ difference_is (number c.args.self.now) (number c.args.other.now) c.in_ok-left.left c.in_ok-right.right c.in_ok-difference.difference
    c.in_ok-left.ensures.0 c.in_ok-left.ensures.1 c.in_ok-right.ensures.0 c.in_ok-right.ensures.1 total.0 total.1
