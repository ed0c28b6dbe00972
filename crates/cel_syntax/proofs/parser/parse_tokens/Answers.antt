use Rattle.cel_syntax.proofs.Last.{answer_of}
use Rattle.cel_syntax.proofs.parser.parse_tokens.Goals as goal

pub returns-clause-grammar : goal.returns-clause-grammar
returns-clause-grammar c = answer_of _ _ c.read.ensures
