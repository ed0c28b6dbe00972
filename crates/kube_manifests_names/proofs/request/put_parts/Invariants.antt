use Rattle.cel_value.specs.View.{entries_view}
use Rattle.kube_manifests_names.proofs.request.put_parts.Given as goal
use Rattle.kube_manifests_names.specs.Requests.{parts_onto}
use Rattle.serde_json.specs.View.{view as json_view}
use Rattle.std.proofs.Common.{◌≡◌, drop, map}

abbrev pub invariant-loop-field : goal.invariant-loop-field
invariant-loop-field l =
    parts_onto (entries_view l.entries.entries) (map (λ f. (f.0.now, f.1)) (drop l.field-index l.fields)) (json_view l.request)
    ≡ parts_onto (entries_view l.fn.entries.entries) (map (λ f. (f.0.now, f.1)) l.fields) (json_view l.request)
