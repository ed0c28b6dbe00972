use Rattle.kubecel_check.proofs.definitions.add_definitions.Given as goal
use Rattle.kubecel_check.specs.Definitions.{where_definition}
use Rattle.kubecel_io.specs.Subjects.{subject_view}
use Rattle.std.proofs.Common.{◌≡◌, ◌++◌, flat_map, map, take}

abbrev pub invariant-loop-object : goal.invariant-loop-object
invariant-loop-object l = map subject_view l.definitions.items ≡ map subject_view l.fn.definitions.items ++ flat_map where_definition (map subject_view (take l.object-index l.objects))
