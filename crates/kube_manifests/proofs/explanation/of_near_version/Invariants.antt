use Rattle.std.proofs.Common.{◌≡◌, drop, map}
use Rattle.std.specs.List.{find}
use Rattle.kube_manifests.proofs.explanation.of_near_version.Given as goal
use Rattle.kube_manifests.specs.Explanations.{is_of_near_version}
use Rattle.kube_manifests.specs.Lists.{version_view}

abbrev pub invariant-loop-version : goal.invariant-loop-version
invariant-loop-version l = find (is_of_near_version l.api_version l.kind) (map version_view (drop l.version-index l.versions)) ≡ find (is_of_near_version l.api_version l.kind) (map version_view l.versions)
