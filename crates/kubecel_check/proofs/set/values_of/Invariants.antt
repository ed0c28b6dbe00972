use Rattle.kubecel_check.proofs.set.values_of.Given as goal
use Rattle.kubecel_io.specs.Subjects.{subject_view}
use Rattle.serde_json.specs.View.{view}
use Rattle.std.proofs.Common.{◌≡◌, map, take}

abbrev pub invariant-loop-definition : goal.invariant-loop-definition
invariant-loop-definition l = map (λ w. view w.now) l.values.items ≡ map (λ f. f.value) (map subject_view (take l.definition-index l.definitions))
