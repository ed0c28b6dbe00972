-- Scaffolding: only proofs and private clauses cite it.
-- Entries of a policy that are found by their labels.
use Rattle.kube_manifests.specs.Positions.{first_at, position_at}
use Rattle.kubecel_cli.specs.Reports.{Expressions, entries_in, expressions_view, is_labelled}
use Rattle.kubecel_cli.specs.declared.place.Entries.{Entries}
use Rattle.serde_json.specs.Data.{Data}
use Rattle.serde_json.specs.View.{view}
use Rattle.std.specs.Prelude.{◌≡◌, ℕ, List, [], map}

-- the index has where each label stands first
abbrev pub IsIndexed : Entries → Type 0
IsIndexed x = (label : List ℕ) → position_at x.positions [] label
    ≡ first_at (is_labelled (expressions_view x.expressions) label) (map view x.entries.now)

-- and the entries are those of a list in a policy
abbrev pub IsIndexOf : Expressions → Data → Entries → Type 0
IsIndexOf e d x = (expressions_view x.expressions ≡ e) × (map view x.entries.now ≡ entries_in e d) × IsIndexed x
