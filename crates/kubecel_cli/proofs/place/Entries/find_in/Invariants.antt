use Rattle.kubecel_cli.proofs.place.Entries.find_in.Given as goal
use Rattle.kube_manifests.specs.Positions.{first_at, position_at}
use Rattle.kubecel_cli.specs.Reports.{expressions_view, is_labelled}
use Rattle.serde_json.specs.View.{view}
use Rattle.std.proofs.Common.{◌≡◌, ℕ, List, [], map, take}

abbrev pub invariant-loop-entry : goal.invariant-loop-entry
invariant-loop-entry l = (l.number ≡ l.entry-index)
    × ((label : List ℕ) → position_at l.positions [] label
    ≡ first_at (is_labelled (expressions_view l.expressions) label) (map view (take l.entry-index l.entries)))
