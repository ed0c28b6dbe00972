use Rattle.kube_manifests.specs.Sets.{set_view}
use Rattle.kubecel_check.proofs.olds.refuse_unless_usable.Given as goal
use Rattle.kubecel_check.specs.Judgements.{is_unusable}
use Rattle.kubecel_io.specs.Subjects.{subject_view}
use Rattle.std.proofs.Common.{◌≡◌, drop, map}
use Rattle.std.specs.List.{list_any}

abbrev pub invariant-loop-old : goal.invariant-loop-old
invariant-loop-old l = list_any (is_unusable l.ignores_missing (set_view l.set)) (map subject_view l.olds)
    ≡ list_any (is_unusable l.ignores_missing (set_view l.set)) (map subject_view (drop l.old-index l.olds))
