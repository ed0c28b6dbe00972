use Rattle.std.proofs.Common.{◌-◌, ◌≡◌, suc, length, sym, ap, ◌∙◌, arith, Err}
use Rattle.cel_value.proofs.Stored.{past_all}
use Rattle.cel_value.proofs.value.stored.place.Goals as goal

pub returns-in-Greater-clause-place : goal.returns-in-Greater-clause-place
returns-in-Greater-clause-place c =
    let es = c.args.entries.now in
    let k = c.args.key.now in
    let m = length es - 1 in
    let e = c.index-entries-count.result in
    let o = sym c.cmp.ensures ∙ c.in-Greater.is in
    let whole : suc m ≡ length es = omega (arith, c.if-count-eq0.false) in
    sym (ap Err whole) ∙ sym (past_all k es m e c.requires whole o)
