use Rattle.std.proofs.Common.{length, map}
use Rattle.cel_syntax_lexer.specs.Token.{token_of}
use Rattle.cel_syntax_lexer.proofs.Cut.{Goes}
use Rattle.cel_syntax_lexer.proofs.lexer.tokens.Given as goal

abbrev pub invariant-loop-rest : goal.invariant-loop-rest
invariant-loop-rest l = Goes l.text (map token_of l.found.items) l.rest

abbrev pub decreases-loop-rest : goal.decreases-loop-rest
decreases-loop-rest l = length l.rest
