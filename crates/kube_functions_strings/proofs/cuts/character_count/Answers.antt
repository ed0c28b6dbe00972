use Rattle.std.proofs.Common.{◌≡◌, arith, rules, length, ap, sym}
use Rattle.std.specs.Str.{chars, IsAscii, IsNotAscii}
use Rattle.std.proofs.lemmas.Bool.{MatchBool-at_true}
use Rattle.std.proofs.lemmas.Str.{chars-IsAscii, chars_from_encodes}
use Rattle.kube_functions_strings.proofs.Between.{few_characters}
use Rattle.kube_functions_strings.proofs.cuts.character_count.Goals as goal

pub returns-then-is_ascii-clause-value : goal.returns-then-is_ascii-clause-value
returns-then-is_ascii-clause-value c =
    let text = c.args.text.now in
    ap length (sym (chars-IsAscii text (MatchBool-at_true (IsAscii text) (IsNotAscii text) c.if-is_ascii.true c.is_ascii.ensures.cases)))

pub returns-else-is_ascii : goal.returns-else-is_ascii
returns-else-is_ascii c =
    let count : c.count.result ≡ length (chars c.args.text.now) = search (rules, chars_from_encodes) in
    record { value = count; small = omega (arith, few_characters c.args.text.now c.utf8.text) }
