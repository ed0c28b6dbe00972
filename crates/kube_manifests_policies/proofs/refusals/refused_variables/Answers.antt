use Rattle.kube_manifests_documents.proofs.Entries.{no_item}
use Rattle.kube_manifests_documents.specs.Policies.{item_view}
use Rattle.kube_manifests_policies.proofs.Labels.{label_more, variables_last, variables_next}
use Rattle.kube_manifests_policies.proofs.refusals.refused_variables.Goals as goal
use Rattle.kube_manifests_policies.specs.Verdicts.{result_view}
use Rattle.std.proofs.Common.{◌<◌, length, get_or, map, take, arith, sym, ◌∙◌}
use Rattle.std.proofs.lemmas.List.{get_or_default}

pub loop-item-preserved : goal.loop-item-preserved
loop-item-preserved c =
    let l = c.loop-item in
    let items = c.args.items.now in
    let i = l.item-index in
    let below : i < length items = omega arith in
    let x = get_or items i no_item in
    let is = get_or_default items i no_item x below in
    record {
      names = label_more items i x l.before c.insert_text.new.texts below is l.invariant.names c.in_ok-insert_text.ensures.added;
      refused = variables_next c.args.params items i x (map result_view l.refused.items) (map result_view c.add_refused.new.refused.items) l.before below is l.invariant.names c.in_ok-add_refused.ensures.added
          ∙ l.invariant.refused;
    }

pub returns : goal.returns
returns c = record {
  refused =
      let l = c.loop-item in
      let items = c.args.items.now in
      sym (variables_last c.args.params (map item_view (take l.item-index items)) items l.item-index (map result_view l.refused.items) c.loop-item-test.false) ∙ l.invariant.refused;
}
