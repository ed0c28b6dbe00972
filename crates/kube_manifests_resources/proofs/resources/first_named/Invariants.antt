use Rattle.kube_manifests_resources.proofs.resources.first_named.Given as goal
use Rattle.kube_manifests_resources.specs.Resources.{builtin_view, first_of, named}
use Rattle.std.proofs.Common.{◌≡◌, drop, map}

abbrev pub invariant-loop-row : goal.invariant-loop-row
invariant-loop-row l =
    first_of (named l.group l.plural) (map builtin_view l.rows)
    ≡ first_of (named l.group l.plural) (map builtin_view (drop l.row-index l.rows))
