use Rattle.std.proofs.Common.{◌∙◌, rules, FitsSigned}
use Rattle.std.proofs.lemmas.Int.{to_z-of_z}
use Rattle.std.specs.Int.{w128}
use Rattle.kube_types.specs.Quantity.Shown.{number}
use Rattle.kube_types.specs.Quantity.Sums.{sum_of}
use Rattle.kube_types.proofs.Quantity.Meanings.{sum_is}
use Rattle.kube_types.proofs.quantities.quantity.KubeQuantity.add.Goals as goal

pub returns-in_err-left : goal.returns-in_err-left
unfolding sum_of
returns-in_err-left c = search rules

pub returns-in_err-right : goal.returns-in_err-right
unfolding sum_of
returns-in_err-right c = search rules

pub returns-in_err-sum : goal.returns-in_err-sum
unfolding sum_of
returns-in_err-sum c = search rules

pub returns : goal.returns
returns c =
    let l_fits : FitsSigned w128 c.in_ok-left.left = search rules in
    let r_fits : FitsSigned w128 c.in_ok-right.right = search rules in
    let z_fits : FitsSigned w128 c.in_ok-sum.sum = search rules in
    let total = simp to_z-of_z at c.in_ok-sum.ensures in
    let result = simp to_z-of_z at c.at_smaller_scale.ensures in
    result ∙ sum_is (number c.args.self.now) (number c.args.other.now) c.in_ok-left.left c.in_ok-right.right c.in_ok-sum.sum
    c.in_ok-left.ensures.0 c.in_ok-left.ensures.1 c.in_ok-right.ensures.0 c.in_ok-right.ensures.1 total.0 total.1
