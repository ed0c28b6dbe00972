use Rattle.cel_syntax_lexer.proofs.Strings.{closes_once}
use Rattle.cel_syntax_lexer.proofs.laws.a_string_closes_once.Goals as goal

pub returns : goal.returns
returns c = λ q y z first second. closes_once q y z first second
