use Rattle.cel_syntax_lexer.proofs.Minus.{no_literal}
use Rattle.cel_syntax_lexer.proofs.laws.minus_has_its_literals.Goals as goal

pub returns : goal.returns
returns c = no_literal
