use Rattle.cel_value.specs.Data.{text_key}
use Rattle.cel_value.specs.Keys.{put}
use Rattle.cel_value.specs.View.{entries_view, items_of}
use Rattle.kube_manifests_names.proofs.OwnKeys.{items_are}
use Rattle.kube_manifests_names.proofs.values.+unstructured.Goals as goal
use Rattle.kube_manifests_names.specs.Unstructured.{unstructured, unstructured_entries}
use Rattle.kube_schema_values.proofs.Behind.{behind_all, behind_next, behind_none}
use Rattle.serde_json.specs.View.{view as json_view}
use Rattle.std.proofs.Common.{◌≡◌, take, map, take_all, sym, ap, ◌∙◌}
use Rattle.std.specs.Iterator.Adapters.{rev_source}

pub unstructured_items-returns-clause-items : goal.unstructured_items-returns-clause-items
unstructured_items-returns-clause-items t c =
    let all : take c.loop-item.item-index c.deref-item-items.result.now ≡ c.args.items.now.items = rw (take_all c.loop-item.item-index c.deref-item-items.result.now c.loop-item-test.false) c.deref-item-items.ensures.value in
    ap items_of (c.loop-item.invariant ∙ ap (map (λ v. unstructured (json_view v))) all) ∙ sym (items_are c.args.items.now.items)

pub unstructured_entries-loop-key-init : goal.unstructured_entries-loop-key-init
unfolding unstructured_entries
unstructured_entries-loop-key-init t c =
    behind_none unstructured_entries c.args.members.now.entries c.into_iter-key-iterator.result.iter (entries_view c.new-entries.result.entries)
    (ap rev_source c.into_iter-key-iterator.ensures.into_iter_gives ∙ c.rev-key-items.ensures.source ∙ c.iter.ensures.rest) (ap entries_view c.new-entries.ensures.empty)

pub unstructured_entries-loop-key-preserved : goal.unstructured_entries-loop-key-preserved
unfolding unstructured_entries
unstructured_entries-loop-key-preserved t c =
    let l = c.loop-key in
    let named = c.in_ok-name.ensures.ok ∙ c.as_str.ensures.value in
    behind_next unstructured_entries c.args.members.now.entries l.key-iterator.iter c.next.new.self.iter (c.in-Some.key.now, c.in-Some.member.now) (entries_view l.entries.entries) (entries_view c.put_entry.new.entries.entries) l.invariant c.in-Some.ensures.steps
    (λ ms same. c.in_ok-put_entry.ensures.entered ∙ (λ i. put (text_key (named i)) (c.in_ok-value.ensures.value i) (same i)))

pub unstructured_entries-returns-clause-entries : goal.unstructured_entries-returns-clause-entries
unstructured_entries-returns-clause-entries t c = behind_all unstructured_entries c.args.members.now.entries c.loop-key.key-iterator.iter (entries_view c.loop-key.entries.entries) c.loop-key.invariant c.in-None.ensures.steps.0
