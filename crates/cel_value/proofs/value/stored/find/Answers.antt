use Rattle.std.proofs.Common.{sym, ap, ◌∙◌, is_ok}
use Rattle.cel_value.proofs.Stored.{found, missing}
use Rattle.cel_value.proofs.value.stored.find.Goals as goal

pub returns-in-Ok : goal.returns-in-Ok
returns-in-Ok c = sym (found c.args.key.now c.args.entries.now c.in-Ok.at c.index-entries-at.result (sym c.search.ensures.place ∙ c.in-Ok.is))

pub returns-in-Err : goal.returns-in-Err
returns-in-Err c = sym (missing c.args.key.now c.args.entries.now c.requires (ap is_ok (sym c.search.ensures.place ∙ c.in-Err.is)))
