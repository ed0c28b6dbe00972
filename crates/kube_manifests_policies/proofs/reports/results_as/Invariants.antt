use Rattle.cel.specs.Book.{Extends, Book}
use Rattle.cel.specs.Entries.{entries_of}
use Rattle.kube_manifests_policies.proofs.reports.results_as.Given as goal
use Rattle.kube_manifests_policies.specs.Reports.{result_as}
use Rattle.kube_manifests_documents.specs.Policies.{item_view}
use Rattle.kube_manifests_policies.specs.Scopes.{outcome_or_reason, scope_view}
use Rattle.kube_manifests_policies.specs.Verdicts.{result_view}
use Rattle.std.proofs.Common.{◌≡◌, map, take}

abbrev pub invariant-loop-item : goal.invariant-loop-item
invariant-loop-item l = record {
  keeps : Extends (entries_of l.book) (entries_of l.initial.book);
  reported : (b : Book) → Extends b (entries_of l.book)
      → map result_view l.results.items ≡ map (result_as l.subject (outcome_or_reason b (scope_view l.scope))) (map item_view (take l.item-index l.items));
}
