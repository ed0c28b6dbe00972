use Rattle.kube_manifests_bindings.proofs.fields.unknown_field.Given as goal
use Rattle.kube_manifests_documents.specs.Policies.{unknown_field, unknown_in}
use Rattle.serde_json.specs.View.{members_view, view}
use Rattle.std.proofs.Common.{◌≡◌, map}

abbrev pub invariant-loop-name : goal.invariant-loop-name
invariant-loop-name l =
    unknown_field (map (λ s. s.now) l.known) (view l.value) ≡ unknown_in (map (λ s. s.now) l.known) (members_view l.name-iterator)
