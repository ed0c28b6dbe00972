use Rattle.kube_types.proofs.Quantity.TextsOf.{quantity_text}
use Rattle.kube_types.proofs.quantities.laws.texts_mean_their_number.Goals as goal

pub returns : goal.returns
returns c = quantity_text
