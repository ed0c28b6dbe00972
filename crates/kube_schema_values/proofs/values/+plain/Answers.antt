use Rattle.std.proofs.Common.{◌≡◌, take, map, take_all, sym, ap, ◌∙◌}
use Rattle.std.specs.Iterator.Adapters.{rev_source}
use Rattle.serde_json.specs.View.{view as json_view}
use Rattle.cel_value.specs.Data.{text_key}
use Rattle.cel_value.specs.Keys.{put}
use Rattle.cel_value.specs.View.{items_of, entries_view}
use Rattle.kube_schema_values.specs.Escape.{escape}
use Rattle.kube_schema_values.specs.Plain.{plain, plain_entries}
use Rattle.kube_schema_values.proofs.Behind.{behind_none, behind_next, behind_all}
use Rattle.kube_schema_values.proofs.Plains.{plain_items_is}
use Rattle.kube_schema_values.proofs.values.+plain.Goals as goal

pub bind_items-returns-clause-items : goal.bind_items-returns-clause-items
bind_items-returns-clause-items t c =
    let all : take c.loop-item.item-index c.deref-item-items.result.now ≡ c.args.items.now.items = rw (take_all c.loop-item.item-index c.deref-item-items.result.now c.loop-item-test.false) c.deref-item-items.ensures.value in
    ap items_of (c.loop-item.invariant ∙ ap (map (λ v. plain (json_view v))) all) ∙ sym (plain_items_is c.args.items.now.items)

pub bind_members-loop-key-init : goal.bind_members-loop-key-init
unfolding plain_entries
bind_members-loop-key-init t c = behind_none plain_entries c.args.members.now.entries c.into_iter-key-iterator.result.iter (entries_view c.new-bound.result.entries)
    (ap rev_source c.into_iter-key-iterator.ensures.into_iter_gives ∙ c.rev-key-items.ensures.source ∙ c.iter.ensures.rest) (ap entries_view c.new-bound.ensures.empty)

pub bind_members-loop-key-preserved : goal.bind_members-loop-key-preserved
unfolding plain_entries
bind_members-loop-key-preserved t c =
    let l = c.loop-key in
    let named = c.in_ok-name.ensures.key ∙ ap escape c.as_str.ensures.value in
    behind_next plain_entries c.args.members.now.entries l.key-iterator.iter c.next.new.self.iter (c.in-Some.key.now, c.in-Some.member.now) (entries_view l.bound.entries) (entries_view c.put_shared.new.entries.entries) l.invariant c.in-Some.ensures.steps
    (λ ms same. c.in_ok-put_shared.ensures.entered ∙ (λ i. put (text_key (named i)) (c.in_ok-value.ensures.value i) (same i)))

pub bind_members-returns-clause-entries : goal.bind_members-returns-clause-entries
bind_members-returns-clause-entries t c = behind_all plain_entries c.args.members.now.entries c.loop-key.key-iterator.iter (entries_view c.loop-key.bound.entries) c.loop-key.invariant c.in-None.ensures.steps.0
