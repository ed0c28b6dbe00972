use Rattle.std.proofs.lemmas.Str.Pattern.{contains_text}
use Rattle.cel_stdlib.proofs.Parts.{part_found}
use Rattle.cel_stdlib.proofs.strings.has_part.Goals as goal

pub returns : goal.returns
returns c = part_found _ _ _ (contains_text _ _ _ c.contains.ensures.cases)
