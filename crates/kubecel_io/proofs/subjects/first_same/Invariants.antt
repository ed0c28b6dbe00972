use Rattle.kubecel_io.proofs.subjects.first_same.Given as goal
use Rattle.kubecel_io.specs.Objects.{first_same}
use Rattle.kubecel_io.specs.Subjects.{subject_view}
use Rattle.serde_json.specs.View.{view}
use Rattle.std.proofs.Common.{◌≡◌, drop, map}

abbrev pub invariant-loop-old : goal.invariant-loop-old
invariant-loop-old l = first_same (map (λ f. f.value) (map subject_view l.olds)) (view l.subject.value.now) ≡ first_same (map (λ f. f.value) (map subject_view (drop l.old-index l.olds))) (view l.subject.value.now)
