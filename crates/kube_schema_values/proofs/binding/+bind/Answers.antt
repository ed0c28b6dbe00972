use Rattle.std.proofs.Common.{◌≡◌, ◌-◌, suc, take, map, take_all, sym, ap, ◌∙◌, arith}
use Rattle.std.specs.Iterator.Adapters.{rev_source}
use Rattle.serde_json.specs.View.{view as json_view}
use Rattle.cel_value.specs.Data.{text_key}
use Rattle.cel_value.specs.Keys.{put}
use Rattle.cel_value.specs.View.{items_of, entries_view}
use Rattle.kube_schema_values.specs.Conversion.{to_cel, entries_by, key_in, member_by, member_key}
use Rattle.kube_schema_values.proofs.Behind.{behind_none, behind_next, behind_all}
use Rattle.kube_schema_values.proofs.Bounds.{bound_past, bound_within, items_by_is}
use Rattle.kube_schema_values.proofs.binding.+bind.Goals as goal

pub bind_with-returns-then-depth-gt-MAX_SCHEMA_DEPTH-clause-value : goal.bind_with-returns-then-depth-gt-MAX_SCHEMA_DEPTH-clause-value
bind_with-returns-then-depth-gt-MAX_SCHEMA_DEPTH-clause-value g t c =
    let none : 65 - c.args.depth ≡ 0 = omega arith in
    c.in_ok-plain.ensures.value ∙ sym (bound_past g.N.Node.accessors (65 - c.args.depth) (g.N.Node.seen c.args.node) (json_view c.args.value.now) none)

pub bind_with-returns-clause-value : goal.bind_with-returns-clause-value
bind_with-returns-clause-value g t c =
    let some : 65 - c.args.depth ≡ suc (64 - c.args.depth) = omega arith in
    c.in_ok-bound.ensures.value ∙ sym (bound_within g.N.Node.accessors (65 - c.args.depth) (64 - c.args.depth) (g.N.Node.seen c.args.node) (json_view c.args.value.now) some)

pub bind_items-returns-clause-items : goal.bind_items-returns-clause-items
bind_items-returns-clause-items g t c =
    let f = to_cel g.N.Node.accessors (65 - c.args.depth) (g.N.Node.seen c.args.node) in
    let all : take c.loop-item.item-index c.deref-item-items.result.now ≡ c.args.items.now.items = rw (take_all c.loop-item.item-index c.deref-item-items.result.now c.loop-item-test.false) c.deref-item-items.ensures.value in
    ap items_of (c.loop-item.invariant ∙ ap (map (λ v. f (json_view v))) all) ∙ sym (items_by_is f c.args.items.now.items)

pub bind_members-loop-key-init : goal.bind_members-loop-key-init
bind_members-loop-key-init g t c =
    let s = g.N.Node.seen c.args.node in
    behind_none (entries_by (member_key g.N.Node.accessors s) (member_by g.N.Node.accessors (to_cel g.N.Node.accessors (64 - c.args.depth)) s)) c.args.members.now.entries c.into_iter-key-iterator.result.iter (entries_view c.new-bound.result.entries)
    (ap rev_source c.into_iter-key-iterator.ensures.into_iter_gives ∙ c.rev-key-items.ensures.source ∙ c.iter.ensures.rest) (ap entries_view c.new-bound.ensures.empty)

pub bind_members-loop-key-preserved : goal.bind_members-loop-key-preserved
bind_members-loop-key-preserved g t c =
    let l = c.loop-key in
    let s = g.N.Node.seen c.args.node in
    let f = to_cel g.N.Node.accessors (64 - c.args.depth) in
    let named = c.in_ok-name.ensures.key ∙ (λ i. key_in (c.is_map-keeps_keys.ensures i) (c.as_str.ensures.value i)) in
    let valued = c.in_ok-value.ensures.value ∙ ap (λ k. member_by g.N.Node.accessors f s k (json_view c.in-Some.member.now)) c.as_str-in-loop-key.ensures.value in
    behind_next (entries_by (member_key g.N.Node.accessors s) (member_by g.N.Node.accessors f s)) c.args.members.now.entries l.key-iterator.iter c.next.new.self.iter (c.in-Some.key.now, c.in-Some.member.now) (entries_view l.bound.entries) (entries_view c.put_shared.new.entries.entries) l.invariant c.in-Some.ensures.steps
    (λ ms same. c.in_ok-put_shared.ensures.entered ∙ (λ i. put (text_key (named i)) (valued i) (same i)))

pub bind_members-returns-clause-entries : goal.bind_members-returns-clause-entries
bind_members-returns-clause-entries g t c =
    let l = c.loop-key in
    let s = g.N.Node.seen c.args.node in
    behind_all (entries_by (member_key g.N.Node.accessors s) (member_by g.N.Node.accessors (to_cel g.N.Node.accessors (64 - c.args.depth)) s)) c.args.members.now.entries l.key-iterator.iter (entries_view l.bound.entries) l.invariant c.in-None.ensures.steps.0
