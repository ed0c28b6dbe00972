use Rattle.kubecel_io.proofs.Writes.{then_last}
use Rattle.kubecel_io.proofs.stops.write_unusable.Goals as goal

pub returns : goal.returns
returns g c =
    let C = g.E.Write.contents in
    let head = rw c.count.ensures at c.in_ok-write_number.ensures in
    then_last (C c.args.err.now) (C c.write_number.new.out) (C c.write_all.new.self) _ _ c.write_all.result head c.write_all.ensures.bytes
