use Rattle.std.proofs.Common.{◌≡◌, Some, map, ap, sym, ◌∙◌, option_and_then}
use Rattle.kube_manifests_texts.proofs.Firsts.{found_at_first}
use Rattle.kube_manifests.proofs.list.Versions.find.Goals as goal
use Rattle.kube_manifests.specs.Lists.{list_view, version_view}
use Rattle.kube_manifests_documents.specs.Versions.{is_of_version}
use Rattle.std.specs.List.{slice_get}

pub returns-in-Some : goal.returns-in-Some
returns-in-Some c =
    let p = is_of_version c.args.api_version.now c.args.kind.now in
    let vs = list_view c.args.self.now in
    c.version_at.ensures ∙ ap (λ xs. slice_get (map version_view xs) c.in-Some.position) c.as_slice.ensures.value
    ∙ ap (option_and_then (slice_get vs)) (c.in-Some.ensures ∙ c.requires c.args.api_version.now c.args.kind.now) ∙ sym (found_at_first p vs)

pub returns-in-None : goal.returns-in-None
returns-in-None c =
    let p = is_of_version c.args.api_version.now c.args.kind.now in
    let vs = list_view c.args.self.now in
    ap (option_and_then (slice_get vs)) (c.in-None.ensures ∙ c.requires c.args.api_version.now c.args.kind.now) ∙ sym (found_at_first p vs)
