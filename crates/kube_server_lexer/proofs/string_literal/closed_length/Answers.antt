use Rattle.std.proofs.Common.{sym}
use Rattle.cel_syntax_lexer.proofs.Strings.{longest_closed, no_closed}
use Rattle.kube_server_lexer.proofs.string_literal.closed_length.Goals as goal

pub returns-in-Some-clause-spelling : goal.returns-in-Some-clause-spelling
returns-in-Some-clause-spelling c =
    longest_closed (record { byte = c.args.quotes.byte; tripled = c.args.quotes.tripled; raw = c.args.quotes.raw }) c.args.text.now c.in-Some.length (sym c.in-Some.ensures)

pub returns-in-None-clause-spelling : goal.returns-in-None-clause-spelling
returns-in-None-clause-spelling c =
    no_closed (record { byte = c.args.quotes.byte; tripled = c.args.quotes.tripled; raw = c.args.quotes.raw }) c.args.text.now (sym c.in-None.ensures)

pub returns-in-Some-clause-within : goal.returns-in-Some-clause-within
returns-in-Some-clause-within c =
    let r = longest_closed (record { byte = c.args.quotes.byte; tripled = c.args.quotes.tripled; raw = c.args.quotes.raw }) c.args.text.now c.in-Some.length (sym c.in-Some.ensures) in
    r.fits
