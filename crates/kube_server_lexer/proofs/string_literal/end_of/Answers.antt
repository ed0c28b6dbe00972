use Rattle.std.proofs.Common.{sym, ◌∙◌, arith}
use Rattle.cel_syntax_lexer.proofs.Strings.{search_closes, search_breaks, search_goes_on, search_ends}
use Rattle.kube_server_lexer.proofs.string_literal.end_of.Goals as goal

pub returns-then-closes : goal.returns-then-closes
returns-then-closes c =
    rw c.quotes_length.ensures.value
    (sym (c.loop-index.invariant ∙ search_closes (record { byte = c.args.quotes.byte; tripled = c.args.quotes.tripled; raw = c.args.quotes.raw }) c.loop-index.hidden c.args.text.now c.loop-index.index c.loop-index-test.true
    (rw c.after.ensures at (sym c.closes.ensures.value ∙ c.if-closes.true))))

pub returns-then-breaks : goal.returns-then-breaks
returns-then-breaks c =
    sym (c.loop-index.invariant ∙ search_breaks (record { byte = c.args.quotes.byte; tripled = c.args.quotes.tripled; raw = c.args.quotes.raw }) c.loop-index.hidden c.args.text.now c.loop-index.index c.loop-index-test.true
    (rw c.after.ensures at (sym c.closes.ensures.value ∙ c.if-closes.false)) (sym c.breaks.ensures ∙ c.if-breaks.true))

pub loop-index-preserved : goal.loop-index-preserved
loop-index-preserved c =
    rw c.hides-hidden.ensures
    (c.loop-index.invariant ∙ search_goes_on (record { byte = c.args.quotes.byte; tripled = c.args.quotes.tripled; raw = c.args.quotes.raw }) c.loop-index.hidden c.args.text.now c.loop-index.index c.loop-index-test.true
    (rw c.after.ensures at (sym c.closes.ensures.value ∙ c.if-closes.false)) (sym c.breaks.ensures ∙ c.if-breaks.false))

pub returns : goal.returns
returns c = sym (c.loop-index.invariant ∙ search_ends (record { byte = c.args.quotes.byte; tripled = c.args.quotes.tripled; raw = c.args.quotes.raw }) c.loop-index.hidden c.args.text.now c.loop-index.index (omega arith))
