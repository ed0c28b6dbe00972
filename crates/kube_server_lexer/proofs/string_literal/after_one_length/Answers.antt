use Rattle.std.proofs.Common.{sym, ◌∙◌}
use Rattle.cel_syntax_lexer.proofs.Strings.{longest_after_one, no_after_one}
use Rattle.kube_server_lexer.proofs.string_literal.after_one_length.Goals as goal

pub returns-then-begins-clause-spelling : goal.returns-then-begins-clause-spelling
returns-then-begins-clause-spelling c =
    rw c.longer.ensures (longest_after_one (record { byte = c.args.quotes.byte; tripled = c.args.quotes.tripled; raw = c.args.quotes.raw }) c.args.text.now c.after_two_length.result (sym c.begins.ensures.value ∙ c.if-begins.true) (rw c.after.ensures at c.after_two_length.ensures.spelling))

pub returns-else-begins-clause-spelling : goal.returns-else-begins-clause-spelling
returns-else-begins-clause-spelling c =
    no_after_one (record { byte = c.args.quotes.byte; tripled = c.args.quotes.tripled; raw = c.args.quotes.raw }) c.args.text.now (sym c.begins.ensures.value ∙ c.if-begins.false)
