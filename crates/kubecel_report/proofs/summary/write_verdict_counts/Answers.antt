use Rattle.kubecel_report.proofs.Writes.{then_last}
use Rattle.kubecel_report.proofs.summary.write_verdict_counts.Goals as goal
use Rattle.kubecel_report.specs.Summary.{verdict_counts}

pub returns : goal.returns
unfolding verdict_counts
returns g c =
    let C = g.E.Write.contents in
    let o1 = C c.write_number.new.out in
    let o2 = C c.write_number-2.new.out in
    let o3 = C c.write_number-3.new.out in
    let o4 = C c.write_number-4.new.out in
    let r = c.write_number-4.result in
    let valid = rw c.verdict_count.ensures at c.in_ok-write_number.ensures in
    let invalid = rw c.verdict_count-2.ensures at c.in_ok-write_number-2.ensures in
    let unjudged = rw c.verdict_count-3.ensures at c.in_ok-write_number-3.ensures in
    let skipped = rw c.verdict_count-4.ensures at c.write_number-4.ensures in
    then_last (C c.args.err.now) o1 o4 _ _ r valid
    (then_last o1 o2 o4 _ _ r invalid
    (then_last o2 o3 o4 _ _ r unjudged skipped))
