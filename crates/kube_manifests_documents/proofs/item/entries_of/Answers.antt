use Rattle.kube_manifests_documents.proofs.Entries.{all_read, one_read}
use Rattle.kube_manifests_documents.proofs.Names.{one_name_more}
use Rattle.kube_manifests_documents.proofs.item.entries_of.Goals as goal
use Rattle.kube_manifests_documents.specs.Faults.{FaultData, ◌>>=◌}
use Rattle.kube_manifests_documents.specs.Policies.{HasNames, ItemData, entries_after, item_view, next_entry, reading_view}
use Rattle.serde_json.specs.View.{items_view, view}
use Rattle.std.proofs.Common.{◌<◌, ◌+◌, List, [], ◌∷◌, ◌++◌, Result, length, map, drop, arith, sym, ap, ◌∙◌, subst}
use Rattle.std.proofs.lemmas.List.{length-map, map-append}

pub returns-in-Err : goal.returns-in-Err
returns-in-Err c = record {
  entries =
      let list = c.args.list in
      let vs = c.args.values.now in
      let i = c.loop-value.value-index in
      let items = c.loop-value.items.items in
      let done = map item_view items in
      let v = c.value-item.result in
      let below : i < length vs = omega arith in
      let then : ItemData → Result (List ItemData) FaultData = λ x. entries_after list (done ++ x ∷ []) (items_view (drop (i + 1) vs)) in
      let here = c.next_entry.ensures ∙ (λ j. next_entry list (map item_view (c.as_slice.ensures.value j)) (length (c.as_slice.ensures.value j)) (view v))
      ∙ ap (λ n. next_entry list done n (view v)) (sym (length-map items item_view)) in
      sym (c.loop-value.invariant.entries ∙ one_read list done vs i v below c.value-item.is ∙ ap (λ r. r >>= then) (sym (sym (ap (reading_view item_view) c.in-Err.is) ∙ here)));
}

pub next_entry-requires : goal.next_entry-requires
next_entry-requires c = subst (λ xs. HasNames c.args.list c.loop-value.names (map item_view xs)) (sym c.as_slice.ensures.value) c.loop-value.invariant.names

pub loop-value-preserved : goal.loop-value-preserved
loop-value-preserved c =
    let list = c.args.list in
    let vs = c.args.values.now in
    let i = c.loop-value.value-index in
    let items = c.loop-value.items.items in
    let done = map item_view items in
    let v = c.value-item.result in
    let below : i < length vs = omega arith in
    let then : ItemData → Result (List ItemData) FaultData = λ x. entries_after list (done ++ x ∷ []) (items_view (drop (i + 1) vs)) in
    let here = c.next_entry.ensures ∙ (λ j. next_entry list (map item_view (c.as_slice.ensures.value j)) (length (c.as_slice.ensures.value j)) (view v))
    ∙ ap (λ n. next_entry list done n (view v)) (sym (length-map items item_view)) in
    let pushed = ap (map item_view) c.in_ok-push-in-Ok.ensures.items ∙ map-append item_view items (c.in-Ok.item ∷ []) in
    record {
      entries = c.loop-value.invariant.entries ∙ one_read list done vs i v below c.value-item.is ∙ ap (λ r. r >>= then) (sym (sym (ap (reading_view item_view) c.in-Ok.is) ∙ here))
          ∙ ap (λ xs. entries_after list xs (items_view (drop (i + 1) vs))) (sym pushed);
      names = one_name_more list c.loop-value.names c.add_name.new.names done (map item_view c.push.new.self.items) (item_view c.in-Ok.item) pushed c.loop-value.invariant.names c.in_ok-add_name-in-Ok.ensures.added;
    }

pub returns : goal.returns
returns c = record {
  entries =
      sym (c.loop-value.invariant.entries ∙ all_read c.args.list (map item_view c.loop-value.items.items) c.args.values.now c.loop-value.value-index c.loop-value-test.false);
}
