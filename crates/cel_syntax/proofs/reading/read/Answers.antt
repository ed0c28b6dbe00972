use Rattle.std.proofs.Common.{map}
use Rattle.cel_syntax_lexer.specs.Token.{token_of}
use Rattle.cel_syntax.proofs.Trees.{reported}
use Rattle.cel_syntax.proofs.reading.read.Goals as goal

pub returns-in-Some : goal.returns-in-Some
returns-in-Some c =
    let cuts = rw c.in-Some.is at c.in_ok-found.ensures in
    reported c.args.text.now (map token_of c.deref.result.now) c.parse_tokens.result (rw c.deref.ensures.value cuts) c.parse_tokens.ensures.reads
