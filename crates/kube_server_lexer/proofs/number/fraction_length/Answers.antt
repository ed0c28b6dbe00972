use Rattle.std.proofs.Common.{sym, ◌∙◌}
use Rattle.cel_syntax_lexer.proofs.Numbers.{longest_fraction, no_fraction}
use Rattle.kube_server_lexer.proofs.number.fraction_length.Goals as goal

pub returns-then-begins-clause-spelling : goal.returns-then-begins-clause-spelling
returns-then-begins-clause-spelling c =
    rw c.longer.ensures (longest_fraction c.args.text.now c.after_dot_length.result (sym c.begins.ensures.value ∙ c.if-begins.true) (rw c.after.ensures at c.after_dot_length.ensures.spelling))

pub returns-else-begins-clause-spelling : goal.returns-else-begins-clause-spelling
returns-else-begins-clause-spelling c =
    no_fraction c.args.text.now (sym c.begins.ensures.value ∙ c.if-begins.false)
