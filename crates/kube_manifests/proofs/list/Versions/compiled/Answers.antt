use Rattle.std.proofs.Common.{map, ap, sym, ◌∙◌}
use Rattle.kube_manifests.proofs.Formed.{first_map}
use Rattle.kube_manifests.proofs.list.Versions.compiled.Goals as goal
use Rattle.kube_manifests.specs.Sets.{with_tree}
use Rattle.kube_manifests_documents.specs.Defined.{defined_view, list_view}
use Rattle.kube_manifests_documents.specs.Versions.{is_of_version}
use Rattle.kube_manifests_texts.specs.Positions.{first_at}

pub returns-clause-indexed : goal.returns-clause-indexed
returns-clause-indexed c = λ text kind.
    let trees = c.in_ok-list.ensures.versions ∙ ap (λ xs. map with_tree (map defined_view xs)) c.as_slice.ensures.value in
    c.requires.0 text kind ∙ sym (first_map with_tree (is_of_version text kind) (list_view c.args.defined)) ∙ ap (first_at (is_of_version text kind)) (sym trees)
