use Rattle.cel.proofs.Unread.{meaning_alike}
use Rattle.cel.proofs.laws.unread_names_change_nothing.Goals as goal

pub returns : goal.returns
returns c = meaning_alike
