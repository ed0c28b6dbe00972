use Rattle.kube_manifests_bindings.proofs.fields.check_texts.Given as goal
use Rattle.kube_manifests_bindings.specs.Faults.{place_pointer}
use Rattle.kube_manifests_bindings.specs.Fields.{form_view, texts_fit}
use Rattle.kube_manifests_documents.specs.Pointers.{key_pointer}
use Rattle.serde_json.specs.View.{items_view}
use Rattle.std.proofs.Common.{◌≡◌, drop}

abbrev pub invariant-loop-index : goal.invariant-loop-index
invariant-loop-index l =
    texts_fit (key_pointer (place_pointer l.place) l.name) (form_view l.form) 0 (items_view l.items)
    ≡ texts_fit (key_pointer (place_pointer l.place) l.name) (form_view l.form) l.index (items_view (drop l.index l.items))
