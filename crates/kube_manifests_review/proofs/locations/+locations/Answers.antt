use Rattle.std.proofs.Common.{◌≡◌, ◌-◌, ◌++◌, [], ◌∷◌, suc, map, codes, false, refl, sym, ap, ◌∙◌, arith, string_bytes}
use Rattle.std.proofs.lemmas.List.{map-append}
use Rattle.kube_manifests_review.proofs.Gathered.{gathered, no_levels, seven_steps, six_steps}
use Rattle.kube_manifests_review.proofs.Items.{last_item, next_item}
use Rattle.kube_manifests_review.proofs.Steps.{no_more, one_more}
use Rattle.kube_manifests_review.proofs.locations.+locations.Goals as goal
use Rattle.kube_manifests_review.specs.Locations.{item_locations, maybe_locations, named_locations, location_view, locations_of, locations_within, unread_within}
use Rattle.kube_manifests_documents.specs.Pointers.{index_pointer, key_pointer, keyword_pointer}
use Rattle.kube_schema.specs.DefaultsAccessors.{members_or_none}
use Rattle.kube_schema.specs.View.{items_or_none}
use Rattle.serde_json.specs.View.{items_view, members_view, view}

pub add_locations-returns-then-levels-eq0 : goal.add_locations-returns-then-levels-eq0
add_locations-returns-then-levels-eq0 t c = no_levels c.args.levels c.args.is_read c.args.pointer.now (view c.args.schema.now) _ c.if-levels-eq0.true

pub add_locations-returns : goal.add_locations-returns
add_locations-returns t c =
    let p = c.args.pointer.now in
    let s = view c.args.schema.now in
    let n = c.args.levels - 1 in
    let more : c.args.levels ≡ suc n = let h = c.if-levels-eq0.false in omega arith in
    let e0 = map location_view c.args.locations.now.items in
    gathered c.args.levels n c.args.is_read p s e0 (map location_view c.push.new.self.items) (map location_view c.add_within.new.locations.items) (map location_view c.add_unread.new.locations.items) more
    (ap (map location_view) c.in_ok-push.ensures.items ∙ map-append location_view c.args.locations.now.items _
    ∙ ap (λ q. e0 ++ record { pointer = q; schema = s; is_read = c.args.is_read } ∷ []) c.in_ok-from_str.ensures.ok)
    c.in_ok-add_within.ensures c.in_ok-add_unread.ensures

pub add_within-returns : goal.add_within-returns
unfolding locations_within
add_within-returns t c =
    let p = c.args.pointer.now in
    let f = locations_of c.args.levels c.args.is_read in
    let e1 = map location_view c.add_names.new.locations.items in
    let e2 = map location_view c.add_maybe.new.locations.items in
    six_steps (map location_view c.args.locations.now.items) e1 e2 (map location_view c.add_maybe-2.new.locations.items) (map location_view c.add_branches.new.locations.items)
    (map location_view c.add_branches-2.new.locations.items) (map location_view c.add_branches-3.new.locations.items) _ _ _ _ _ _
    c.in_ok-add_names.ensures
    (c.in_ok-add_maybe.ensures ∙ ap (λ o. e1 ++ maybe_locations f (keyword_pointer p (codes "items")) o) c.get-items.ensures)
    (c.in_ok-add_maybe-2.ensures ∙ ap (λ o. e2 ++ maybe_locations f (keyword_pointer p (codes "additionalProperties")) o) c.undeclared-others.ensures)
    c.in_ok-add_branches.ensures c.in_ok-add_branches-2.ensures c.in_ok-add_branches-3.ensures

pub add_unread-returns : goal.add_unread-returns
unfolding unread_within
add_unread-returns t c =
    let p = c.args.pointer.now in
    let f = locations_of c.args.levels false in
    let e0 = map location_view c.args.locations.now.items in
    let e1 = map location_view c.add_maybe.new.locations.items in
    let e2 = map location_view c.add_maybe-2.new.locations.items in
    seven_steps e0 e1 e2 (map location_view c.add_maybe-3.new.locations.items) (map location_view c.add_branches.new.locations.items)
    (map location_view c.add_names.new.locations.items) (map location_view c.add_names-2.new.locations.items) (map location_view c.add_names-3.new.locations.items) _ _ _ _ _ _ _
    (c.in_ok-add_maybe.ensures ∙ ap (λ o. e0 ++ maybe_locations f (keyword_pointer p (codes "additionalProperties")) o) c.passed_over-passed.ensures)
    (c.in_ok-add_maybe-2.ensures ∙ ap (λ o. e1 ++ maybe_locations f (keyword_pointer p (codes "not")) o) c.get-not.ensures)
    (c.in_ok-add_maybe-3.ensures ∙ ap (λ o. e2 ++ maybe_locations f (keyword_pointer p (codes "additionalItems")) o) c.get-others.ensures)
    c.in_ok-add_branches.ensures c.in_ok-add_names.ensures c.in_ok-add_names-2.ensures c.in_ok-add_names-3.ensures

pub add_names-loop-key-init : goal.add_names-loop-key-init
add_names-loop-key-init t c = refl

pub add_names-loop-key-preserved : goal.add_names-loop-key-preserved
add_names-loop-key-preserved t c =
    let l = c.loop-key in
    let f = locations_of c.args.levels c.args.is_read in
    let q = string_bytes c.in_ok-inner.inner in
    let v = view c.in-Some-2.member.now in
    let had = map location_view l.locations.items in
    let named = c.as_str-in-loop-key-2.ensures.value ∙ c.in_ok-named.ensures ∙ ap (λ r. key_pointer r c.as_str-in-loop-key.result.now) c.as_str.ensures.value
    ∙ ap (key_pointer q) c.as_str-in-loop-key.ensures.value in
    one_more _ had (f (key_pointer q (string_bytes c.in-Some-2.key.now)) v) (named_locations f q (members_view c.next.new.self)) _
    (c.in_ok-add_locations.ensures ∙ ap (λ r. had ++ f r v) named)
    (ap (λ es. had ++ named_locations f q (members_view es)) (sym c.in-Some-2.ensures.steps) ∙ l.invariant)

pub add_names-returns : goal.add_names-returns
add_names-returns t c =
    let l = c.loop-key in
    let f = locations_of c.args.levels c.args.is_read in
    let q = string_bytes c.in_ok-inner.inner in
    let all = map location_view c.args.locations.now.items in
    no_more (map location_view l.locations.items) (named_locations f q (members_view l.key-iterator)) _ (ap (λ es. named_locations f q (members_view es)) c.in-None.ensures.steps.0) l.invariant
    ∙ ap (λ es. all ++ named_locations f q (members_view es)) (c.into_iter-key-iterator.ensures.into_iter_gives ∙ c.iter-key-items.ensures.rest)
    ∙ ap (λ r. all ++ named_locations f r (members_view c.in-Some.members.now.entries)) c.in_ok-inner.ensures
    ∙ ap (λ ms. all ++ named_locations f (keyword_pointer c.args.pointer.now c.args.field.now) (members_or_none ms)) c.in-Some.ensures

pub add_branches-loop-index-preserved : goal.add_branches-loop-index-preserved
add_branches-loop-index-preserved t c =
    let l = c.loop-index in
    let f = locations_of c.args.levels c.args.is_read in
    let q = string_bytes c.in_ok-inner.inner in
    let had = map location_view l.locations.items in
    let named = c.as_str-in-loop-index.ensures.value ∙ c.in_ok-branch.ensures ∙ ap (λ r. index_pointer r l.index) c.as_str.ensures.value in
    next_item (item_locations f q) (λ i d. f (index_pointer q i) d) (λ i d ds. refl) c.deref-item-items.result.now l.index c.item-item.result _ had _ c.loop-index-test.true c.item-item.is
    (c.in_ok-add_locations.ensures ∙ ap (λ r. had ++ f r (view c.item-item.result)) named) l.invariant

pub add_branches-returns : goal.add_branches-returns
add_branches-returns t c =
    let l = c.loop-index in
    let f = locations_of c.args.levels c.args.is_read in
    let q = string_bytes c.in_ok-inner.inner in
    let all = map location_view c.args.locations.now.items in
    last_item (item_locations f q) (λ i d. f (index_pointer q i) d) (λ i. refl) c.deref-item-items.result.now l.index (map location_view l.locations.items) _ c.loop-index-test.false l.invariant
    ∙ ap (λ vs. all ++ item_locations f q 0 (items_view vs)) c.deref-item-items.ensures.value
    ∙ ap (λ r. all ++ item_locations f r 0 (items_view c.in-Some.items.now.items)) c.in_ok-inner.ensures
    ∙ ap (λ o. all ++ item_locations f (keyword_pointer c.args.pointer.now c.args.keyword.now) 0 (items_or_none o)) c.in-Some.ensures
