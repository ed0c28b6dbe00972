use Rattle.std.proofs.Common.{sym, ◌∙◌}
use Rattle.cel_syntax_lexer.proofs.Numbers.{longest_after_zero}
use Rattle.kube_server_lexer.proofs.number.after_zero_length.Goals as goal

pub returns-then-begins-clause-spelling : goal.returns-then-begins-clause-spelling
returns-then-begins-clause-spelling c =
    rw c.longer.ensures (longest_after_zero c.args.text.now c.after_x_length.result (sym c.begins.ensures.value ∙ c.if-begins.true) (rw c.after.ensures at c.after_x_length.ensures.spelling))
