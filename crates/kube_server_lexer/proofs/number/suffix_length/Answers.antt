use Rattle.std.proofs.Common.{sym, ◌∙◌}
use Rattle.cel_syntax_lexer.proofs.Numbers.{longest_suffix, no_suffix}
use Rattle.kube_server_lexer.proofs.number.suffix_length.Goals as goal

pub returns-then-begins_either-clause-spelling : goal.returns-then-begins_either-clause-spelling
returns-then-begins_either-clause-spelling c =
    longest_suffix c.args.text.now (sym c.begins_either.ensures.value ∙ c.if-begins_either.true)

pub returns-else-begins_either-clause-spelling : goal.returns-else-begins_either-clause-spelling
returns-else-begins_either-clause-spelling c =
    no_suffix c.args.text.now (sym c.begins_either.ensures.value ∙ c.if-begins_either.false)
