use Rattle.std.proofs.Common.{IsAscii, length, ap, sym}
use Rattle.std.proofs.lemmas.Bool.{MatchBool-at_true}
use Rattle.std.proofs.lemmas.Str.{chars-IsAscii}
use Rattle.std.specs.Str.{IsNotAscii}
use Rattle.cel_stdlib.proofs.sizes.character_count.Goals as goal

pub returns-then-is_ascii : goal.returns-then-is_ascii
returns-then-is_ascii c =
    let text = c.args.text.now in
    ap length (sym (chars-IsAscii text (MatchBool-at_true (IsAscii text) (IsNotAscii text) c.if-is_ascii.true c.is_ascii.ensures.cases)))
