use Rattle.kube_manifests_documents.proofs.Entries.{no_item}
use Rattle.kube_manifests_policies.proofs.Labels.{label_more}
use Rattle.kube_manifests_policies.proofs.refusals.labels_of.Goals as goal
use Rattle.std.proofs.Common.{◌<◌, length, get_or, arith}
use Rattle.std.proofs.lemmas.List.{get_or_default}

pub loop-item-preserved : goal.loop-item-preserved
loop-item-preserved c =
    let l = c.loop-item in
    let items = c.args.items.now in
    let i = l.item-index in
    let below : i < length items = omega arith in
    let x = get_or items i no_item in
    label_more items i x l.names c.insert_text.new.texts below (get_or_default items i no_item x below) l.invariant c.in_ok-insert_text.ensures.added
