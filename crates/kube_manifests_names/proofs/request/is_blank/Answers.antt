use Rattle.kube_manifests_names.proofs.Blanks.{no_item_is, no_member_is}
use Rattle.kube_manifests_names.proofs.request.is_blank.Goals as goal
use Rattle.kube_manifests_names.specs.Requests.{is_blank}
use Rattle.serde_json.proofs.Views.{view-Array, view-Object}
use Rattle.serde_json.specs.View.{view as json_view}
use Rattle.std.proofs.Common.{◌==◌, length, sym, ap, ◌∙◌}

pub returns-in-Array : goal.returns-in-Array
returns-in-Array c =
    c.is_empty-in-Array.ensures ∙ ap (λ xs. length xs == 0) c.as_slice.ensures.value ∙ sym (no_item_is c.in-Array.items.items)
    ∙ sym (ap is_blank (ap json_view c.in-Array.is ∙ view-Array c.in-Array.items))

pub returns-in-Object : goal.returns-in-Object
returns-in-Object c =
    ap (λ n. n == 0) c.len.ensures.len ∙ sym (no_member_is c.in-Object.members.entries) ∙ sym (ap is_blank (ap json_view c.in-Object.is ∙ view-Object c.in-Object.members))
