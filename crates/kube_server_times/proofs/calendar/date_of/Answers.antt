use Rattle.std.proofs.Common.{◌≡◌, rules}
use Rattle.jiff_core.specs.Calendar.{IsCivilDate}
use Rattle.jiff_core.specs.Date.{epoch_day}
use Rattle.kube_server_times.proofs.Dates.{date_parts}
use Rattle.kube_server_times.proofs.calendar.date_of.Goals as goal

pub returns-clause-year : goal.returns-clause-year
returns-clause-year c =
    let d = c.unwrap.result in
    let same : epoch_day d ≡ c.args.day = search rules in
    (date_parts d.year d.month d.day c.args.day (d.year_in, d.month_in, d.day_in) same c.requires.0).0

pub returns-clause-month : goal.returns-clause-month
returns-clause-month c =
    let d = c.unwrap.result in
    let same : epoch_day d ≡ c.args.day = search rules in
    (date_parts d.year d.month d.day c.args.day (d.year_in, d.month_in, d.day_in) same c.requires.0).1

pub returns-clause-day : goal.returns-clause-day
returns-clause-day c =
    let d = c.unwrap.result in
    let same : epoch_day d ≡ c.args.day = search rules in
    (date_parts d.year d.month d.day c.args.day (d.year_in, d.month_in, d.day_in) same c.requires.0).2
