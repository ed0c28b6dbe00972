use Rattle.cel_value.specs.Data.{map_of}
use Rattle.cel_value.specs.View.{entries_view}
use Rattle.kube_manifests_names.proofs.request.request_value.Goals as goal
use Rattle.kube_manifests_names.specs.Requests.{parts_onto, request_fields, request_value}
use Rattle.serde_json.specs.View.{view as json_view}
use Rattle.std.proofs.Common.{ap, ◌∙◌}

pub returns : goal.returns
unfolding request_value
returns c = record {
  value = c.in_ok-value.ensures.value
      ∙ ap map_of (c.in_ok-put_parts.ensures.entered ∙ ap (λ es. parts_onto (entries_view es) request_fields (json_view c.args.request.now)) c.new-entries.ensures.empty);
}
