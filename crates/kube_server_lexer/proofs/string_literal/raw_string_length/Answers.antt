use Rattle.std.proofs.Common.{sym, ◌∙◌}
use Rattle.cel_syntax_lexer.proofs.Strings.{longest_raw_string, no_raw_string}
use Rattle.kube_server_lexer.proofs.string_literal.raw_string_length.Goals as goal

pub returns-then-begins_either-clause-spelling : goal.returns-then-begins_either-clause-spelling
returns-then-begins_either-clause-spelling c =
    rw c.longer.ensures (longest_raw_string c.args.text.now c.string_length.result (sym c.begins_either.ensures.value ∙ c.if-begins_either.true) (rw c.after.ensures at c.string_length.ensures.spelling))

pub returns-else-begins_either-clause-spelling : goal.returns-else-begins_either-clause-spelling
returns-else-begins_either-clause-spelling c =
    no_raw_string c.args.text.now (sym c.begins_either.ensures.value ∙ c.if-begins_either.false)
