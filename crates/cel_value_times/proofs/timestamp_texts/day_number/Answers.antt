use Rattle.std.proofs.Common.{◌≡◌, ◌≤◌, pos, refl, arith, rules}
use Rattle.std.proofs.lemmas.Int.{ints}
use Rattle.jiff_core.specs.Calendar.{days_from_civil}
use Rattle.cel_value_times.proofs.CalendarFacts.{days_in_range}
use Rattle.cel_value_times.proofs.timestamp_texts.day_number.Goals as goal

pub returns-in-Ok-clause-range : goal.returns-in-Ok-clause-range
returns-in-Ok-clause-range c =
    let date = c.in-Ok.ensures.succeeds.0 refl in
    let number : c.to_unix_epoch_day.result ≡ days_from_civil (pos c.args.year) c.args.month c.args.day = first_of (cc, search rules) in
    let from : 1 ≤ c.args.year = omega arith in
    let range = days_in_range c.args.year c.args.month c.args.day date from in
    let low = range.0 in
    let high = range.1 in
    (omega (arith, ints), omega (arith, ints))
