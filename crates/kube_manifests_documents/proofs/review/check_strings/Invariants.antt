use Rattle.kube_manifests_documents.proofs.review.check_strings.Given as goal
use Rattle.kube_manifests_documents.specs.Reviews.{strings_fit}
use Rattle.serde_json.specs.View.{items_view}
use Rattle.std.proofs.Common.{◌≡◌, drop}

abbrev pub invariant-loop-index : goal.invariant-loop-index
invariant-loop-index l = strings_fit l.base l.name 0 (items_view l.items) ≡ strings_fit l.base l.name l.index (items_view (drop l.index l.items))
