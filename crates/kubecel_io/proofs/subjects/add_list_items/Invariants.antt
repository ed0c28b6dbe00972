use Rattle.kubecel_io.proofs.subjects.add_list_items.Given as goal
use Rattle.kubecel_io.specs.Objects.{item_of}
use Rattle.kubecel_io.specs.Subjects.{subject_view}
use Rattle.serde_json.specs.View.{view}
use Rattle.std.proofs.Common.{◌≡◌, ◌++◌, map, take}

abbrev pub invariant-loop-value : goal.invariant-loop-value
invariant-loop-value l = map subject_view l.subjects.items ≡ map subject_view l.fn.subjects.items ++ map (item_of (subject_view l.document)) (map view (take l.value-index l.items))
