use Rattle.std.proofs.Common.{◌≡◌, map}
use Rattle.cel.specs.Book.{Extends, Book}
use Rattle.cel.specs.Entries.{entries_of}
use Rattle.kube_manifests_review.specs.Candidates.{candidate_view, due, finding_view}
use Rattle.kube_manifests_review.proofs.review.due.Given as goal

abbrev pub invariant-loop-candidate : goal.invariant-loop-candidate
invariant-loop-candidate l = record {
  keeps : (b : Book) → Extends b (entries_of l.book) → Extends b (entries_of l.fn.book);
  found : (b : Book) → Extends b (entries_of l.book) → map finding_view l.found.items ≡ due (map candidate_view l.yielded) b;
}
