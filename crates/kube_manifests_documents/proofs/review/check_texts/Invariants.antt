use Rattle.kube_manifests_documents.proofs.review.check_texts.Given as goal
use Rattle.kube_manifests_documents.specs.Reviews.{texts_fit}
use Rattle.serde_json.specs.View.{view}
use Rattle.std.proofs.Common.{◌≡◌, drop, map}

abbrev pub invariant-loop-name : goal.invariant-loop-name
invariant-loop-name l =
    texts_fit l.base (view l.value) (map (λ s. s.now) l.names) ≡ texts_fit l.base (view l.value) (map (λ s. s.now) (drop l.name-index l.names))
