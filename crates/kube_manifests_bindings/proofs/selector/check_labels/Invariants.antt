use Rattle.kube_manifests_bindings.proofs.selector.check_labels.Given as goal
use Rattle.kube_manifests_bindings.specs.Selectors.{labels_fit}
use Rattle.kube_manifests_documents.specs.Pointers.{keyword_pointer}
use Rattle.serde_json.specs.View.{members_view}
use Rattle.std.proofs.Common.{◌≡◌, codes}

abbrev pub invariant-loop-key : goal.invariant-loop-key
invariant-loop-key l =
    labels_fit (keyword_pointer l.pointer (codes "matchLabels")) (members_view l.labels.entries)
    ≡ labels_fit (keyword_pointer l.pointer (codes "matchLabels")) (members_view l.key-iterator)
