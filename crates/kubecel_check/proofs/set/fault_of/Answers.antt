use Rattle.kubecel_io.specs.Subjects.{subject_view}
use Rattle.kubecel_check.proofs.Sets.{whole_so}
use Rattle.kubecel_check.proofs.set.fault_of.Goals as goal
use Rattle.serde_json.specs.View.{view}
use Rattle.std.proofs.Common.{map, ap, ◌∙◌}

pub returns-in-Ok : goal.returns-in-Ok
returns-in-Ok c = λ none.
    whole_so (map subject_view c.args.definitions.now) (map (λ w. view w.now) c.as_slice.result.now) c.in_ok-read.read c.in-Ok.is c.in_ok-read.ensures.versions
    (ap (map (λ w. view w.now)) c.as_slice.ensures.value ∙ c.in_ok-values.ensures)
