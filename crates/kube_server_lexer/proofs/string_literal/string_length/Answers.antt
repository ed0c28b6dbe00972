use Rattle.std.proofs.Common.{sym, ◌∙◌}
use Rattle.cel_syntax_lexer.proofs.First.{has_some}
use Rattle.cel_syntax_lexer.proofs.Strings.{longest_string, no_string}
use Rattle.kube_server_lexer.proofs.string_literal.string_length.Goals as goal

pub returns-then-not-is_quote-clause-spelling : goal.returns-then-not-is_quote-clause-spelling
returns-then-not-is_quote-clause-spelling c = no_string c.args.raw c.args.text.now (sym c.is_quote.ensures ∙ c.if-not-is_quote.true)

pub returns-clause-spelling : goal.returns-clause-spelling
returns-clause-spelling c =
    let some = has_some c.args.text.now (sym c.is_empty.ensures ∙ c.if-is_empty.false) in
    rw (c.longer.ensures, c.max.ensures)
    (longest_string c.args.raw c.args.text.now c.closed_length.result c.after_one_length.result some (sym c.is_quote.ensures ∙ c.if-not-is_quote.false)
    (rw c.after-rest.ensures at c.closed_length.ensures.spelling) (rw c.after-rest.ensures at c.after_one_length.ensures.spelling))
