use Rattle.kubecel_report.proofs.Writes.{then_last}
use Rattle.kubecel_report.proofs.json_report.write_json_item.Goals as goal
use Rattle.kubecel_report.specs.Json.{json_item}

pub returns : goal.returns
unfolding json_item
returns g c =
    let C = g.O.Write.contents in
    let o1 = C c.write_json_head.new.out in
    let o2 = C c.write_all.new.self in
    let o3 = C c.write_json_findings.new.out in
    let o4 = C c.write_all-2.new.self in
    let r = c.write_all-2.result in
    let found = rw c.as_slice.ensures.value at c.in_ok-write_json_findings.ensures in
    then_last (C c.args.out.now) o1 o4 _ _ r c.in_ok-write_json_head.ensures
    (then_last o1 o2 o4 _ _ r c.in_ok-write_all.ensures.bytes
    (then_last o2 o3 o4 _ _ r found c.write_all-2.ensures.bytes))
