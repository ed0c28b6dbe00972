use Rattle.std.proofs.Common.{sym, ◌∙◌}
use Rattle.cel_syntax_lexer.proofs.Strings.{longest_after_two, no_after_two}
use Rattle.kube_server_lexer.proofs.string_literal.after_two_length.Goals as goal

pub returns-then-begins-clause-spelling : goal.returns-then-begins-clause-spelling
returns-then-begins-clause-spelling c =
    rw c.longer.ensures (longest_after_two (record { byte = c.args.quotes.byte; tripled = c.args.quotes.tripled; raw = c.args.quotes.raw }) c.args.text.now c.closed_length.result (sym c.begins.ensures.value ∙ c.if-begins.true) (rw c.after.ensures at c.closed_length.ensures.spelling))

pub returns-else-begins-clause-spelling : goal.returns-else-begins-clause-spelling
returns-else-begins-clause-spelling c =
    no_after_two (record { byte = c.args.quotes.byte; tripled = c.args.quotes.tripled; raw = c.args.quotes.raw }) c.args.text.now (sym c.begins.ensures.value ∙ c.if-begins.false)
