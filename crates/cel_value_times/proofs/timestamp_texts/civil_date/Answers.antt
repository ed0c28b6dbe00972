use Rattle.std.proofs.Common.{◌≡◌, pos, to_z, arith}
use Rattle.std.specs.Int.{w8, w16}
use Rattle.std.proofs.lemmas.Int.{ints}
use Rattle.cel_value_times.proofs.ReadLemmas.{civil_from_date, date_from_civil}
use Rattle.cel_value_times.proofs.timestamp_texts.civil_date.Goals as goal

pub returns-clause-succeeds : goal.returns-clause-succeeds
returns-clause-succeeds c =
    let year : to_z w16 c.args.year ≡ pos c.args.year = omega (arith, ints) in
    let month : to_z w8 c.args.month ≡ pos c.args.month = omega (arith, ints) in
    let day : to_z w8 c.args.day ≡ pos c.args.day = omega (arith, ints) in
    let reported = simp (year, month, day) at c.new.ensures.succeeds in
    (λ ok. civil_from_date c.args.year c.args.month c.args.day (reported.0 ok), λ date. reported.1 (date_from_civil c.args.year c.args.month c.args.day date))
