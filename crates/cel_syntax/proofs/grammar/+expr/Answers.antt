use Rattle.cel_syntax.proofs.Last.{expr_is}
use Rattle.cel_syntax.proofs.grammar.+expr.Goals as goal

pub returns : goal.returns
returns t c = rw (expr_is c.args.limit) c.expression.ensures
