use Rattle.kubecel_report.proofs.Statuses.{none_left, one_more}
use Rattle.kubecel_report.proofs.item.status_of.Goals as goal
use Rattle.std.proofs.Common.{◌<◌, ◌≤◌, length, ◌∙◌, sym, arith}

pub loop-item-preserved : goal.loop-item-preserved
loop-item-preserved c =
    let below : c.loop-item.item-index < length c.args.items.now = omega arith in
    record {
      status = c.loop-item.invariant.status ∙ one_more c.args.items.now c.loop-item.item-index c.item-item.result c.loop-item.status c.status.result c.greater-status.result below c.item-item.is
          c.status.ensures.value c.greater-status.ensures;
      within = omega arith;
    }

pub returns-clause-value : goal.returns-clause-value
returns-clause-value c =
    let past : length c.args.items.now ≤ c.loop-item.item-index = omega arith in
    sym (c.loop-item.invariant.status ∙ none_left c.args.items.now c.loop-item.item-index c.loop-item.status past)
