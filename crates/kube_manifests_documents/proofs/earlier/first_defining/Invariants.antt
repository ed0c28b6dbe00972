use Rattle.std.proofs.Common.{◌≡◌, drop, map}
use Rattle.kube_manifests_texts.proofs.Firsts.{from_on}
use Rattle.kube_manifests_documents.proofs.earlier.first_defining.Given as goal
use Rattle.kube_manifests_documents.specs.Earlier.{defines}
use Rattle.kube_manifests_texts.specs.Positions.{first_at}
use Rattle.serde_json.specs.View.{view}

abbrev pub invariant-loop-position : goal.invariant-loop-position
invariant-loop-position l =
    first_at (defines l.group l.kind) (map (λ v. view v.now) l.documents)
    ≡ from_on l.position (first_at (defines l.group l.kind) (map (λ v. view v.now) (drop l.position l.documents)))
