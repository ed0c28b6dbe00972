use Rattle.kube_manifests.specs.Sets.{set_view}
use Rattle.kubecel_check.proofs.HeldFiles.{all_more}
use Rattle.kubecel_check.proofs.olds.refuse_unless_held.Goals as goal
use Rattle.kubecel_check.specs.Objects.{holds_object}
use Rattle.kubecel_io.specs.Subjects.{subject_view}
use Rattle.std.proofs.Common.{◌<◌, [], get_or, length, map, sym, arith, ◌∙◌}

pub loop-path-preserved : goal.loop-path-preserved
loop-path-preserved c =
    let paths = c.args.paths.now in
    let i = c.loop-path.path-index in
    let below : i < length paths = omega arith in
    let path = get_or paths i (record { ref_ptr = (0, 0); now = [] }) in
    all_more (holds_object (set_view c.args.set.now) (map subject_view c.args.olds.now)) paths i (record { ref_ptr = (0, 0); now = [] }) below c.loop-path.invariant
    (sym (c.in_ok-held.ensures path.now) ∙ sym c.contains.ensures ∙ c.if-not-contains.false)
