use Rattle.std.proofs.Common.{◌≡◌, drop, map}
use Rattle.std.specs.List.{list_any}
use Rattle.kube_manifests.proofs.choice.has_kind.Given as goal
use Rattle.kube_manifests.specs.Lists.{version_view}
use Rattle.kube_manifests.specs.Versions.{is_of_kind}

abbrev pub invariant-loop-version : goal.invariant-loop-version
invariant-loop-version l = list_any (is_of_kind l.api_version l.kind) (map version_view (drop l.version-index l.versions)) ≡ list_any (is_of_kind l.api_version l.kind) (map version_view l.versions)
