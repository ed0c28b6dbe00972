use Rattle.std.proofs.Common.{sym, ◌∙◌}
use Rattle.cel_syntax_lexer.proofs.Numbers.{longest_exponent, no_exponent}
use Rattle.kube_server_lexer.proofs.number.exponent_length.Goals as goal

pub returns-then-begins_either-clause-spelling : goal.returns-then-begins_either-clause-spelling
returns-then-begins_either-clause-spelling c =
    rw c.longer.ensures (longest_exponent c.args.text.now c.power_length.result (sym c.begins_either.ensures.value ∙ c.if-begins_either.true) (rw c.after.ensures at c.power_length.ensures.spelling))

pub returns-else-begins_either-clause-spelling : goal.returns-else-begins_either-clause-spelling
returns-else-begins_either-clause-spelling c =
    no_exponent c.args.text.now (sym c.begins_either.ensures.value ∙ c.if-begins_either.false)
