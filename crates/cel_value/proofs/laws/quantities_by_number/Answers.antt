use Rattle.cel_value.proofs.Equal.{quantities_by_number}
use Rattle.cel_value.proofs.laws.quantities_by_number.Goals as goal

pub returns : goal.returns
returns c = quantities_by_number
