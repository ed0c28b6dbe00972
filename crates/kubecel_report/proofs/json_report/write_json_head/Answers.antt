use Rattle.kubecel_report.proofs.Writes.{then_last}
use Rattle.kubecel_report.proofs.json_report.write_json_head.Goals as goal
use Rattle.kubecel_report.specs.Json.{json_head}

pub returns : goal.returns
unfolding json_head
returns g c =
    let C = g.O.Write.contents in
    let o1 = C c.write_member.new.out in
    let o2 = C c.write_number.new.out in
    let o3 = C c.write_member-2.new.out in
    let o4 = C c.write_member-3.new.out in
    let o5 = C c.write_member-4.new.out in
    let o6 = C c.write.new.self in
    let r = c.write.result in
    let file = rw c.as_str.ensures.value at c.in_ok-write_member.ensures in
    let kind = rw c.as_str-2.ensures.value at c.in_ok-write_member-2.ensures in
    let namespace = rw c.as_str-3.ensures.value at c.in_ok-write_member-3.ensures in
    let name = rw c.as_str-4.ensures.value at c.in_ok-write_member-4.ensures in
    then_last (C c.args.out.now) o1 o6 _ _ r file
    (then_last o1 o2 o6 _ _ r c.in_ok-write_number.ensures
    (then_last o2 o3 o6 _ _ r kind
    (then_last o3 o4 o6 _ _ r namespace
    (then_last o4 o5 o6 _ _ r name (rw c.name.ensures at c.write.ensures.bytes)))))
