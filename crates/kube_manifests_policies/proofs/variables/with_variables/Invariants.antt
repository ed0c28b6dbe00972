use Rattle.cel.specs.Book.{Extends, Book}
use Rattle.cel.specs.Entries.{entries_of}
use Rattle.kube_manifests_policies.proofs.variables.with_variables.Given as goal
use Rattle.kube_manifests_documents.specs.Policies.{item_view}
use Rattle.kube_manifests_policies.specs.Scopes.{Alike, scope_view, variables_after}
use Rattle.std.proofs.Common.{drop, map}

abbrev pub invariant-loop-item : goal.invariant-loop-item
invariant-loop-item l = record {
  keeps : Extends (entries_of l.book) (entries_of l.initial.book);
  scope : (b : Book) → Extends b (entries_of l.book)
      → Alike (variables_after b (scope_view l.so_far) (map item_view (drop l.item-index l.items))) (variables_after b (scope_view l.fn.scope) (map item_view l.items));
}
