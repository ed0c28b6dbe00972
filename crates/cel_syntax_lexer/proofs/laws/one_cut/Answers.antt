use Rattle.cel_syntax_lexer.proofs.Cut.{cuts_once}
use Rattle.cel_syntax_lexer.proofs.laws.one_cut.Goals as goal

pub returns : goal.returns
returns c = λ z ts us d e. cuts_once d e
