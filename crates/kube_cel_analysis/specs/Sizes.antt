-- Trusted by the clauses of analysis and linter.
-- The view of sizes.
use Rattle.kube_cel_analysis.specs.Cost as spec
use Rattle.kube_cel_analysis.specs.declared.cost.Sizes.{Sizes}

abbrev pub sizes_view : Sizes → spec.Sizes
sizes_view s = record { items = s.items; length = s.length }
