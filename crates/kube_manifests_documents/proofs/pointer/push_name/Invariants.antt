use Rattle.std.proofs.Common.{◌≡◌, ◌++◌, string_bytes}
use Rattle.std.specs.List.{flat_map}
use Rattle.kube_manifests_documents.proofs.pointer.push_name.Given as goal
use Rattle.kube_manifests_documents.specs.Pointers.{escaped_character}

abbrev pub invariant-loop-character : goal.invariant-loop-character
invariant-loop-character l = string_bytes l.out ≡ string_bytes l.fn.out ++ flat_map escaped_character l.yielded
