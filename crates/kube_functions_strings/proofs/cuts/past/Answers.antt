use Rattle.std.proofs.Common.{arith}
use Rattle.std.specs.Str.{IsAscii, IsNotAscii}
use Rattle.std.proofs.lemmas.Bool.{MatchBool-at_true}
use Rattle.kube_functions_strings.proofs.After.{past_ascii, short_ascii}
use Rattle.kube_functions_strings.proofs.cuts.past.Goals as goal

pub returns-then-count-text : goal.returns-then-count-text
returns-then-count-text c =
    let text = c.args.text.now in
    let ascii = MatchBool-at_true (IsAscii text) (IsNotAscii text) c.if-is_ascii.true c.is_ascii.ensures.cases in
    past_ascii text c.range_from.result.now c.args.count ascii (omega arith) c.range_from.ensures.value

pub returns-else-count-text : goal.returns-else-count-text
returns-else-count-text c =
    let text = c.args.text.now in
    short_ascii text c.args.count (MatchBool-at_true (IsAscii text) (IsNotAscii text) c.if-is_ascii.true c.is_ascii.ensures.cases) (omega arith)
