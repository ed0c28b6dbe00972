use Rattle.std.proofs.Common.{◌≡◌, map, take}
use Rattle.kube_manifests.proofs.list.compiled_versions.Given as goal
use Rattle.kube_manifests.specs.Lists.{version_view}
use Rattle.kube_manifests.specs.Sets.{with_tree}
use Rattle.kube_manifests_documents.specs.Defined.{defined_view}

abbrev pub invariant-loop-version : goal.invariant-loop-version
invariant-loop-version l = map version_view l.versions.items ≡ map with_tree (map defined_view (take l.version-index l.defined))
