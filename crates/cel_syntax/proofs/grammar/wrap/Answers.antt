use Rattle.std.proofs.Common.{refl, ap, ◌∙◌, add-one}
use Rattle.cel_syntax_ast.specs.Term as tree
use Rattle.cel_syntax.specs.Parser as spec
use Rattle.cel_syntax.proofs.grammar.wrap.Goals as goal

pub loop-turn-init : goal.loop-turn-init
unfolding spec.wrap
loop-turn-init c = refl

pub loop-turn-preserved : goal.loop-turn-preserved
unfolding spec.wrap
loop-turn-preserved c = rw add-one (c.in_ok-tree.ensures ∙ ap (tree.unary c.args.sign) c.loop-turn.invariant)
