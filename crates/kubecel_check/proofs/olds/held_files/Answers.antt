use Rattle.kube_manifests.specs.Sets.{set_view}
use Rattle.kubecel_check.proofs.HeldFiles.{one_more_held}
use Rattle.kubecel_check.proofs.olds.held_files.Goals as goal
use Rattle.std.proofs.Common.{◌<◌, length, arith}

pub loop-old-preserved : goal.loop-old-preserved
loop-old-preserved c =
    let below : c.loop-old.old-index < length c.args.olds.now = omega arith in
    one_more_held (set_view c.args.set.now) c.args.olds.now c.loop-old.old-index c.old-item.result c.loop-old.held c.add_where_defined.new.held below c.old-item.is c.loop-old.invariant
    c.in_ok-add_where_defined.ensures
