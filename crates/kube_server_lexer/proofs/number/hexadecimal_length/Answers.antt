use Rattle.std.proofs.Common.{sym, ◌∙◌}
use Rattle.cel_syntax_lexer.proofs.Numbers.{longest_hexadecimal, no_hexadecimal}
use Rattle.kube_server_lexer.proofs.number.hexadecimal_length.Goals as goal

pub returns-then-begins-clause-spelling : goal.returns-then-begins-clause-spelling
returns-then-begins-clause-spelling c =
    rw c.longer.ensures (longest_hexadecimal c.args.text.now c.after_zero_length.result (sym c.begins.ensures.value ∙ c.if-begins.true) (rw c.after.ensures at c.after_zero_length.ensures.spelling))

pub returns-else-begins-clause-spelling : goal.returns-else-begins-clause-spelling
returns-else-begins-clause-spelling c =
    no_hexadecimal c.args.text.now (sym c.begins.ensures.value ∙ c.if-begins.false)
