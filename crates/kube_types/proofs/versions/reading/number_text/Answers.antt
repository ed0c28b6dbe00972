use Rattle.std.proofs.Common.{sym, ◌∙◌}
use Rattle.kube_types.proofs.Version.Texts.{trimmed_zeros, number_alone, number_left}
use Rattle.kube_types.proofs.versions.reading.number_text.Goals as goal

pub returns-then-is_empty : goal.returns-then-is_empty
returns-then-is_empty c =
    let left = trimmed_zeros c.args.digits.now c.trim_start_matches-number.result.now c.trim_start_matches-number.ensures.matches in
    number_alone c.args.digits.now c.trim_start_matches-number.result.now left (sym c.is_empty.ensures ∙ c.if-is_empty.true)

pub returns-else-is_empty : goal.returns-else-is_empty
returns-else-is_empty c =
    let left = trimmed_zeros c.args.digits.now c.trim_start_matches-number.result.now c.trim_start_matches-number.ensures.matches in
    number_left c.args.digits.now c.trim_start_matches-number.result.now left (sym c.is_empty.ensures ∙ c.if-is_empty.false)
