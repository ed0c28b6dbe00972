use Rattle.kubecel_check.proofs.olds.any_has_old.Given as goal
use Rattle.kubecel_check.specs.Objects.{has_old}
use Rattle.kubecel_io.specs.Subjects.{subject_view}
use Rattle.std.proofs.Common.{◌≡◌, drop, map}
use Rattle.std.specs.List.{list_any}

abbrev pub invariant-loop-subject : goal.invariant-loop-subject
invariant-loop-subject l = list_any (has_old (map (λ f. f.value) (map subject_view l.olds.objects.now))) (map subject_view l.subjects)
    ≡ list_any (has_old (map (λ f. f.value) (map subject_view l.olds.objects.now))) (map subject_view (drop l.subject-index l.subjects))
