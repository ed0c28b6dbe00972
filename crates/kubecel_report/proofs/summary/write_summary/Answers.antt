use Rattle.kubecel_report.proofs.Writes.{then_last}
use Rattle.kubecel_report.proofs.summary.write_summary.Goals as goal
use Rattle.kubecel_report.specs.Summary.{summary_text}

pub returns : goal.returns
unfolding summary_text
returns g c =
    let C = g.E.Write.contents in
    let o1 = C c.write.new.self in
    let o2 = C c.write_number.new.out in
    let o3 = C c.write_verdict_counts.new.err in
    let o4 = C c.write_where_known.new.err in
    let o5 = C c.write_where_known-2.new.err in
    let o6 = C c.write_number-2.new.out in
    let o7 = C c.write_all.new.self in
    let r = c.write_all.result in
    let all = rw c.count.ensures at c.in_ok-write_number.ensures in
    let findings = rw c.finding_count.ensures at c.in_ok-write_number-2.ensures in
    then_last (C c.args.err.now) o1 o7 _ _ r c.in_ok-write.ensures.bytes
    (then_last o1 o2 o7 _ _ r all
    (then_last o2 o3 o7 _ _ r c.in_ok-write_verdict_counts.ensures
    (then_last o3 o4 o7 _ _ r c.in_ok-write_where_known.ensures
    (then_last o4 o5 o7 _ _ r c.in_ok-write_where_known-2.ensures
    (then_last o5 o6 o7 _ _ r findings c.write_all.ensures.bytes)))))
