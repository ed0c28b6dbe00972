use Rattle.cel_patterns.proofs.Entries.{entries-IsBook}
use Rattle.cel.specs.Entries.{entries_of}
use Rattle.kube_manifests_review.proofs.review.review_crd.Goals as goal

pub returns : goal.returns
returns c = record {
  findings =
      let b = c.review_crd_with.new.book in
      (entries_of b, entries-IsBook b, λ names. (c.in_ok-found.ensures.findings names).under (entries_of b) (record { keeps = λ text built e. e }));
}
