use Rattle.cel_syntax_lexer.proofs.CutOf.{cut_is}
use Rattle.cel_syntax_lexer.proofs.laws.cut_is_what_a_text_cuts_into.Goals as goal

pub returns : goal.returns
returns c = λ z. cut_is z
