use Rattle.kube_manifests_resources.proofs.resources.first_of_kind.Given as goal
use Rattle.kube_manifests_resources.specs.Resources.{builtin_view, first_of, of_kind}
use Rattle.std.proofs.Common.{◌≡◌, drop, map}

abbrev pub invariant-loop-row : goal.invariant-loop-row
invariant-loop-row l =
    first_of (of_kind l.group l.kind) (map builtin_view l.rows)
    ≡ first_of (of_kind l.group l.kind) (map builtin_view (drop l.row-index l.rows))
