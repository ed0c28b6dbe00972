use Rattle.kubecel_report.proofs.Writes.{then_last}
use Rattle.kubecel_report.proofs.lines.write_junit_item.Goals as goal
use Rattle.kubecel_report.specs.Lines.{junit_item}

pub returns : goal.returns
unfolding junit_item
returns g c =
    let C = g.O.Write.contents in
    let o1 = C c.write_junit_open.new.out in
    let o2 = C c.write_junit_findings.new.out in
    let o3 = C c.writeln.new.self in
    let r = c.writeln.result in
    let found = rw c.as_slice.ensures.value at c.in_ok-write_junit_findings.ensures in
    then_last (C c.args.out.now) o1 o3 _ _ r c.in_ok-write_junit_open.ensures
    (then_last o1 o2 o3 _ _ r found (rw c.element-element.ensures at c.writeln.ensures.bytes))
