use Rattle.kube_types.proofs.Quantity.Forms.{normal_form-normal, normal_form-same}
use Rattle.kube_types.proofs.quantities.laws.normal_form_keeps_the_number.Goals as goal

pub returns : goal.returns
returns c = λ x. (normal_form-normal x, normal_form-same x)
