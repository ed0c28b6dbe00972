use Rattle.kube_manifests_documents.proofs.review.check_members.Given as goal
use Rattle.kube_manifests_documents.specs.Reviews.{extra_fits}
use Rattle.serde_json.specs.View.{members_view}
use Rattle.std.proofs.Common.{◌≡◌}

abbrev pub invariant-loop-key : goal.invariant-loop-key
invariant-loop-key l = extra_fits (members_view l.members.entries) ≡ extra_fits (members_view l.key-iterator)
