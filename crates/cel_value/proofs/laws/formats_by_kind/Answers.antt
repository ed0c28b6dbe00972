use Rattle.cel_value.proofs.Equal.{formats_by_kind}
use Rattle.cel_value.proofs.laws.formats_by_kind.Goals as goal

pub returns : goal.returns
returns c = formats_by_kind
