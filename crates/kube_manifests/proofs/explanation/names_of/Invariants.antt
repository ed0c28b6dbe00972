use Rattle.std.proofs.Common.{◌≡◌, ◌++◌, drop, map}
use Rattle.kube_manifests.proofs.explanation.names_of.Given as goal
use Rattle.kube_manifests.specs.Explanations.{names_of}
use Rattle.kube_manifests.specs.Lists.{version_view}

abbrev pub invariant-loop-version : goal.invariant-loop-version
invariant-loop-version l =
    map (λ s. s.now) l.names.items ++ names_of l.all (version_view l.of).group (version_view l.of).kind (map version_view (drop l.version-index l.versions))
    ≡ names_of l.all (version_view l.of).group (version_view l.of).kind (map version_view l.versions)
