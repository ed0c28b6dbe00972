use Rattle.kubecel_report.proofs.Writes.{then_last}
use Rattle.kubecel_report.proofs.output.write_junit_head.Goals as goal
use Rattle.kubecel_report.specs.Output.{junit_head}

pub returns : goal.returns
unfolding junit_head
returns g c =
    let C = g.O.Write.contents in
    let o1 = C c.write_number.new.out in
    let o2 = C c.write_number-2.new.out in
    let o3 = C c.write_number-3.new.out in
    let o4 = C c.write_all.new.self in
    let r = c.write_all.result in
    let tests = rw c.count.ensures at c.in_ok-write_number.ensures in
    let failures = rw c.count_of.ensures at c.in_ok-write_number-2.ensures in
    let errors = rw c.count_of-2.ensures at c.in_ok-write_number-3.ensures in
    then_last (C c.args.out.now) o1 o4 _ _ r tests
    (then_last o1 o2 o4 _ _ r failures
    (then_last o2 o3 o4 _ _ r errors c.write_all.ensures.bytes))
