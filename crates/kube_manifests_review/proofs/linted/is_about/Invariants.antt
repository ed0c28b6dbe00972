use Rattle.std.proofs.Common.{◌≡◌, map, drop}
use Rattle.kube_manifests_review.specs.Linted.{is_about}
use Rattle.kube_manifests_review.proofs.linted.is_about.Given as goal

-- the remaining names give the answer of all names
abbrev pub invariant-loop-name : goal.invariant-loop-name
invariant-loop-name l = is_about (map (λ n. n.now) l.names) l.message ≡ is_about (map (λ n. n.now) (drop l.name-index l.names)) l.message
