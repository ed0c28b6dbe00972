use Rattle.std.proofs.Common.{ap, ◌∙◌, rules, FitsSigned}
use Rattle.std.proofs.lemmas.Int.{to_z-of_z}
use Rattle.std.specs.Int.{w32, w128}
use Rattle.kube_types.specs.Quantity.Normal.{quantity_holding}
use Rattle.kube_types.specs.Quantity.Sums.{decimal_at}
use Rattle.kube_types.proofs.quantities.quantity.KubeQuantity.at_smaller_scale.Goals as goal

pub returns : goal.returns
returns c =
    let n_fits : FitsSigned w128 c.args.mantissa = search rules in
    let f_fits : FitsSigned w128 c.from.result = search rules in
    let m_fits : FitsSigned w32 c.min.result = search rules in
    let s_fits : FitsSigned w32 c.args.self.now.scale = search rules in
    let t_fits : FitsSigned w32 c.args.other.now.scale = search rules in
    let result = simp to_z-of_z at c.normalised.ensures in
    let least = simp to_z-of_z at c.min.ensures.value in
    let scale = simp to_z-of_z at c.from.ensures in
    result ∙ ap (λ s. quantity_holding (decimal_at c.args.mantissa s)) (scale ∙ least)
