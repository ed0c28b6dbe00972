use Rattle.std.proofs.Common.{◌≡◌, ◌-◌, [], ◌∷◌, ◌++◌, suc, refl, sym, ap, subst, ◌∙◌, arith, append_assoc, append-nil}
use Rattle.serde_json.specs.View.{view, members_view}
use Rattle.serde_json.proofs.Views.{Entry}
use Rattle.kube_schema.specs.Source.{source_own}
use Rattle.kube_schema.specs.declared.nodes.PropertyLink.{PropertyLink}
use Rattle.kube_schema.specs.declared.nodes.Children.{Children}
use Rattle.kube_schema.specs.View.{view_of, named_view, maybe_view, children_view}
use Rattle.kube_schema.specs.Raw.{Adds, AddsNamed}
use Rattle.kube_schema.proofs.Build.{adds_link, adds_number, node_within, stands, built, joined, view_opens, marked, links_in_order, no_properties, no_branches}
use Rattle.kube_schema.proofs.Trees.{node_same}
use Rattle.kube_schema.proofs.compile.+add.Goals as goal

pub add_items-loop-item-preserved : goal.add_items-loop-item-preserved
add_items-loop-item-preserved t c =
    let l = c.loop-item in
    adds_number c.args.table.now.nodes.items l.table.nodes.items c.add_node.new.table.nodes.items l.numbers.items _ c.in_ok-node.node (view_of c.args.levels) c.deref-item-items.result.now l.item-index c.item-item.result l.table.closed
    l.invariant c.in_ok-node.ensures.adds c.loop-item-test.true c.item-item.is c.in_ok-push.ensures.items

pub add_members-loop-key-preserved : goal.add_members-loop-key-preserved
add_members-loop-key-preserved t c =
    let l = c.loop-key in
    let done = l.invariant.done in
    let e : Entry = (c.in-Some.key.now, c.in-Some.member.now) in
    let link : PropertyLink = record { name = c.in_ok-name.name; node = c.in_ok-node.node } in record {
      done = done ++ e ∷ [];
      all = l.invariant.all ∙ ap (λ es. done ++ es) c.in-Some.ensures.steps ∙ sym (append_assoc done (e ∷ []) c.next.new.self);
      adds = adds_link c.args.table.now.nodes.items l.table.nodes.items c.add_node.new.table.nodes.items l.links.items _ link (view_of c.args.levels) done e l.table.closed
          l.invariant.adds c.in_ok-node.ensures.adds c.in_ok-name.ensures.cases c.in_ok-push.ensures.items;
    }

pub add_members-returns-clause-adds : goal.add_members-returns-clause-adds
add_members-returns-clause-adds t c =
    let l = c.loop-key in
    let done = l.invariant.done in
    let f = view_of c.args.levels in
    let all : c.args.members.now.entries ≡ done = l.invariant.all ∙ ap (λ es. done ++ es) c.in-None.ensures.steps.0 ∙ append-nil done in
    let adds = subst (λ es. AddsNamed source_own c.args.table.now.nodes.items l.table.nodes.items l.links.items (named_view f (members_view es))) (sym all) l.invariant.adds in
    record { adds = adds; ordered = links_in_order source_own l.table.nodes.items l.links.items f c.args.members.now.entries adds.shows c.iter-key-items.ensures.ordered }

pub add_properties-returns-in-None-clause-adds : goal.add_properties-returns-in-None-clause-adds
add_properties-returns-in-None-clause-adds t c = no_properties source_own c.args.table.now.nodes.items (view_of c.args.levels) (view c.args.schema.now) c.new.result.items c.new.ensures.items c.in-None.ensures

pub add_branches-returns-in-None-clause-adds : goal.add_branches-returns-in-None-clause-adds
add_branches-returns-in-None-clause-adds t c = no_branches c.args.table.now.nodes.items (view_of c.args.levels) c.args.keyword.now (view c.args.schema.now) c.new.result.items c.new.ensures.items c.in-None.ensures

pub add_children-returns-clause-adds : goal.add_children-returns-clause-adds
unfolding children_view
add_children-returns-clause-adds t c =
    let s = view c.args.schema.now in
    let f = view_of c.args.levels in
    let ch : Children = record { properties = c.in_ok-properties.properties; items = c.in_ok-items.items; additional = c.in_ok-additional.additional; all_of = c.in_ok-all_of.all_of; one_of = c.in_ok-one_of.one_of; any_of = c.in_ok-any_of.any_of } in
    joined c.args.table.now.nodes.items c.add_properties.new.table.nodes.items c.add_maybe.new.table.nodes.items c.add_maybe-2.new.table.nodes.items c.add_branches.new.table.nodes.items c.add_branches-2.new.table.nodes.items c.add_branches-3.new.table.nodes.items ch (children_view f s)
    c.in_ok-properties.ensures.adds c.in_ok-items.ensures.adds c.in_ok-additional.ensures.adds c.in_ok-all_of.ensures.adds c.in_ok-one_of.ensures.adds c.in_ok-any_of.ensures.adds
    c.add_properties.new.table.closed c.add_maybe.new.table.closed c.add_maybe-2.new.table.closed c.add_branches.new.table.closed c.add_branches-2.new.table.closed
    (λ o. node_same refl refl (ap (maybe_view f) c.get.ensures) (ap (maybe_view f) c.additional.ensures) refl refl refl)

pub add_node-returns-then-levels-eq0-clause-adds : goal.add_node-returns-then-levels-eq0-clause-adds
add_node-returns-then-levels-eq0-clause-adds t c =
    marked _ _ _ _ c.args.levels (view c.args.schema.now) c.in_ok-number.ensures c.marker-marker.ensures c.if-levels-eq0.true

pub add_node-replace_node-requires-clause-within : goal.add_node-replace_node-requires-clause-within
add_node-replace_node-requires-clause-within t c =
    node_within c.args.table.now.nodes.items c.push_leaf-2.new.table.nodes.items c.add_children.new.table.nodes.items c.in_ok-number-2.number _ c.in_ok-children.children (children_view (view_of (c.args.levels - 1)) (view c.args.schema.now))
    c.in_ok-number-2.ensures c.in_ok-children.ensures.adds

pub add_node-replace_node-requires-clause-stands : goal.add_node-replace_node-requires-clause-stands
add_node-replace_node-requires-clause-stands t c =
    stands c.args.table.now.nodes.items c.push_leaf-2.new.table.nodes.items c.add_children.new.table.nodes.items c.in_ok-number-2.number _ c.in_ok-children.children (children_view (view_of (c.args.levels - 1)) (view c.args.schema.now))
    c.in_ok-number-2.ensures c.in_ok-children.ensures.adds

pub add_node-replace_node-requires-clause-ordered : goal.add_node-replace_node-requires-clause-ordered
add_node-replace_node-requires-clause-ordered t c = c.in_ok-children.ensures.adds.ordered

pub add_node-returns-clause-adds : goal.add_node-returns-clause-adds
add_node-returns-clause-adds t c =
    let s = view c.args.schema.now in
    let less = c.args.levels - 1 in
    let more : c.args.levels ≡ suc less = let h = c.if-levels-eq0.false in omega arith in
    let t0 = c.args.table.now.nodes.items in
    let t8 = c.replace_node.new.table.nodes.items in
    let b = built t0 c.push_leaf-2.new.table.nodes.items c.add_children.new.table.nodes.items t8 c.in_ok-number-2.number _ (record { keywords = c.of-keywords.result; children = c.in_ok-children.children }) (children_view (view_of less) s)
    c.in_ok-number-2.ensures c.in_ok-children.ensures.adds c.add_children.new.table.closed c.replace_node.new.table.closed c.replace_node.ensures in
    subst (Adds source_own t0 t8 c.in_ok-number-2.number) (ap (children_view (view_of less) s) c.of-keywords.ensures ∙ view_opens c.args.levels less s more) b
