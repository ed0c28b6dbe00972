use Rattle.std.proofs.Common.{length}
use Rattle.cel_syntax_lexer.proofs.Walk.{Goes}
use Rattle.cel_syntax_lexer.proofs.escape.unescape.Given as goal

abbrev pub invariant-loop-rest : goal.invariant-loop-rest
invariant-loop-rest l = Goes l.content l.body l.made.items l.rest

abbrev pub decreases-loop-rest : goal.decreases-loop-rest
decreases-loop-rest l = length l.rest
