use Rattle.kubecel_report.proofs.Summed.{from_begin, none_left_to_count, one_more_counted}
use Rattle.kubecel_report.proofs.summary.finding_count.Goals as goal
use Rattle.std.proofs.Common.{◌<◌, ◌≤◌, length, ◌∙◌, sym, arith}

pub loop-item-preserved : goal.loop-item-preserved
loop-item-preserved c =
    let below : c.loop-item.item-index < length c.args.items.now = omega arith in (
      omega (arith, c.saturating_add-count.ensures),
      c.loop-item.invariant.1
          ∙ one_more_counted c.args.items.now c.loop-item.item-index c.item-item.result c.loop-item.count c.findings_of.result c.saturating_add-count.result below c.item-item.is
          c.findings_of.ensures c.saturating_add-count.ensures,
    )

pub returns : goal.returns
returns c =
    let past : length c.args.items.now ≤ c.loop-item.item-index = omega arith in
    sym (c.loop-item.invariant.1 ∙ none_left_to_count c.args.items.now c.loop-item.item-index c.loop-item.count past c.loop-item.invariant.0) ∙ from_begin c.args.items.now
