use Rattle.cel_patterns.proofs.Books.{Extends-refl}
use Rattle.cel_patterns.proofs.Entries.{entries-IsBook}
use Rattle.cel.specs.Entries.{entries_of}
use Rattle.kube_manifests_policies.proofs.evaluation.evaluate_policy.Goals as goal

pub returns : goal.returns
returns c = record {
  verdict =
      let b = entries_of c.evaluate_policy_in.new.book in (
        b,
        entries-IsBook c.evaluate_policy_in.new.book,
        c.in_ok-verdict.ensures.books b (Extends-refl b),
      );
}
