use Rattle.std.proofs.Common.{arith, append_assoc, get_or, List, ◌*◌, ◌≡◌, Some, [], ◌∷◌, ◌++◌, ◌+◌, ◌-◌, ◌<◌, ◌≤◌, suc, length, take, take_all, map, option_map, refl, sym, ap, ◌∙◌, subst, inr}
use Rattle.std.proofs.lemmas.List.{length_push, take_more}
use Rattle.std.specs.Prelude.{IfSome, slice_get, zip, if◌then◌else◌}
use Rattle.std.specs.List.Sorted.{IsStrictlySortedBy}
use Rattle.serde_json.specs.Find.{get_member}
use Rattle.serde_json.specs.View.{view as json_view, members_view}
use Rattle.serde_json.specs.declared.value.Value.{Value as Json}
use Rattle.cel_demand.proofs.Macros.{list_alike}
use Rattle.cel_demand.proofs.Parts.{alike_equal}
use Rattle.cel_demand.specs.Alike.{Alike, ListsAlike}
use Rattle.cel_demand.specs.Demand.{part_of, members_view as demands_view}
use Rattle.cel_demand.specs.Part.{nothing, whole, each_item, some_members}
use Rattle.cel_demand.specs.Places.{Entry, name_of}
use Rattle.cel_value.specs.Data.{Data, list, map_of, null, text_key}
use Rattle.cel_value.specs.Find.{find}
use Rattle.cel_value.specs.Keys.{key_cmp, put}
use Rattle.cel_value.specs.Rows.{row_maps}
use Rattle.cel_value.proofs.Shared.{not_there, pushed}
use Rattle.cel_value.specs.declared.key.Key.{Key}
use Rattle.cel_value.specs.declared.value.Value.{Value}
use Rattle.cel_value.specs.Shared.{shared_entries}
use Rattle.cel_value.specs.View.{view, entries_view, items_of}
use Rattle.cel_value.specs.declared.key.Key.TheVariants as key
use Rattle.kube_schema_values.specs.Conversion.{levels}
use Rattle.kube_schema_parts.specs.Parts.{AreNamesIn, AreParts, entries_at, is_map_at, key_at, name_keys, node_of_member, value_at}
use Rattle.kube_schema_parts.proofs.Bound.{alike_by, items_more, items_part, list_bound, member_absent, member_there, members_part, name_at, names_length, no_parts, no_shared, nothing_part, not_true, object_bound, own_key, part_missing, part_put, whole_part}
use Rattle.kube_schema_parts.proofs.Rows.{no_further, rows_count, rows_more, rows_still, view_count}
use Rattle.kube_schema_parts.proofs.parts.+part.Goals as goal

pub part_with-returns-in-Nothing-clause-value : goal.part_with-returns-in-Nothing-clause-value
part_with-returns-in-Nothing-clause-value g t c =
    let w = value_at g.N.Node.accessors (levels c.args.depth) (option_map g.N.Node.seen c.args.node) (json_view c.args.value.now) in
    alike_by c.args.demand.now nothing null w (ap part_of c.in-Nothing.is ∙ nothing_part) tt

pub part_with-returns-in_ok-whole-in-Whole-clause-value : goal.part_with-returns-in_ok-whole-in-Whole-clause-value
part_with-returns-in_ok-whole-in-Whole-clause-value g t c =
    let w = value_at g.N.Node.accessors (levels c.args.depth) (option_map g.N.Node.seen c.args.node) (json_view c.args.value.now) in
    alike_by c.args.demand.now whole (view c.in_ok-whole-in-Whole.whole) w (ap part_of c.in-Whole.is ∙ whole_part) c.in_ok-whole-in-Whole.ensures.value

pub part_with-returns-in_ok-list-in-Items-clause-value : goal.part_with-returns-in_ok-list-in-Items-clause-value
part_with-returns-in_ok-list-in-Items-clause-value g t c =
    let w = value_at g.N.Node.accessors (levels c.args.depth) (option_map g.N.Node.seen c.args.node) (json_view c.args.value.now) in
    alike_by c.args.demand.now (each_item (part_of c.deref.result.now)) (view c.in_ok-list-in-Items.list) w
    (ap part_of c.in-Items.is ∙ items_part c.in-Items.item ∙ ap (λ d. each_item (part_of d)) (sym c.deref.ensures)) c.in_ok-list-in-Items.ensures.value

pub part_with-returns-in_ok-map-in-Members-clause-value : goal.part_with-returns-in_ok-map-in-Members-clause-value
part_with-returns-in_ok-map-in-Members-clause-value g t c =
    let w = value_at g.N.Node.accessors (levels c.args.depth) (option_map g.N.Node.seen c.args.node) (json_view c.args.value.now) in
    alike_by c.args.demand.now (some_members (demands_view c.in-Members.members.items)) (view c.in_ok-map-in-Members.map) w (ap part_of c.in-Members.is ∙ members_part c.in-Members.members)
    c.in_ok-map-in-Members.ensures.value

pub list_part-returns-clause-value : goal.list_part-returns-clause-value
list_part-returns-clause-value g t c = alike_equal (each_item (part_of c.args.item.now)) _ _ c.in_ok-whole.ensures.value

pub list_part-returns-in-Some-clause-value : goal.list_part-returns-in-Some-clause-value
list_part-returns-in-Some-clause-value g t c =
    let p = each_item (part_of c.args.item.now) in
    let d = c.args.depth in
    let o = option_map g.N.Node.seen c.args.node in
    let inner = option_map g.N.Node.seen c.node_of_items.result in
    let vs = c.in-Some.items.now.items in
    let parts = map view c.in_ok-parts.parts.items in
    let items = map (λ (v : Json). value_at g.N.Node.accessors (65 - (d + 1)) inner (json_view v)) vs in
    let within : d ≤ 64 = c.in-Some.ensures.within in
    let next : 65 - d ≡ suc (65 - (d + 1)) = omega (arith, within) in
    let bound : value_at g.N.Node.accessors (65 - d) o (json_view c.args.value.now) ≡ list (items_of items) =
    list_bound g.N.Node.accessors (65 - d) (65 - (d + 1)) o (json_view c.args.value.now) vs next c.in-Some.ensures.items
    ∙ ap (λ i. list (items_of (map (λ (v : Json). value_at g.N.Node.accessors (65 - (d + 1)) i (json_view v)) vs))) (sym c.node_of_items.ensures) in
    subst (λ v. Alike p v (value_at g.N.Node.accessors (65 - d) o (json_view c.args.value.now))) (sym c.in_ok-list.ensures.value)
    (subst (λ w. Alike p (list (items_of parts)) w) (sym bound) (list_alike p parts items c.in_ok-parts.ensures.items))

pub map_part-returns-in-Some-found-clause-value : goal.map_part-returns-in-Some-found-clause-value
map_part-returns-in-Some-found-clause-value g t c =
    let p = some_members (demands_view c.args.members.now.items) in
    let d = c.args.depth in
    let o = option_map g.N.Node.seen c.args.node in
    let object = members_view c.in-Some.object.now.entries in
    let parts = entries_view c.in-Some-found.parts.entries in
    let within : d ≤ 64 = c.in-Some.ensures.within in
    let next : 65 - d ≡ suc (64 - d) = omega (arith, within) in
    let bound = object_bound g.N.Node.accessors (65 - d) (64 - d) o (json_view c.args.value.now) object next c.in-Some.ensures.members in
    let whole = entries_at g.N.Node.accessors (64 - d) o object in
    let all : AreParts (demands_view c.args.members.now.items) parts whole = subst (λ o. IfSome o (λ r. AreParts (demands_view c.args.members.now.items) (entries_view r.entries) whole)) c.in-Some-found.is c.in_ok-found.ensures.members in
    subst (λ v. Alike p v (value_at g.N.Node.accessors (65 - d) o (json_view c.args.value.now))) (sym c.in_ok-map.ensures.value)
    (subst (λ w. Alike p (map_of parts) w) (sym bound) (inr all.0))

pub map_part-returns-clause-value : goal.map_part-returns-clause-value
map_part-returns-clause-value g t c = alike_equal (some_members (demands_view c.args.members.now.items)) _ _ c.in_ok-whole.ensures.value

pub member_parts-loop-member-init : goal.member_parts-loop-member-init
member_parts-loop-member-init g t c =
    let bound = entries_at g.N.Node.accessors (64 - c.args.depth) (option_map g.N.Node.seen c.args.node) (members_view c.args.object.now.entries) in
    no_parts (entries_view c.in_ok-parts.parts.entries) bound (ap entries_view c.in_ok-parts.ensures.empty)

pub member_parts-loop-member-preserved : goal.member_parts-loop-member-preserved
member_parts-loop-member-preserved g t c =
    let items = c.deref-member-items.result.now in
    let i = c.loop-member.member-index in
    let m : Entry = c.member-item.result in
    let lt : i < length items = omega (arith, c.loop-member-test.true) in
    let bound = entries_at g.N.Node.accessors (64 - c.args.depth) (option_map g.N.Node.seen c.args.node) (members_view c.args.object.now.entries) in
    let next = take_more items i m lt ∙ ap (λ y. take i items ++ y ∷ []) (sym c.member-item.is) in
    subst (λ es. AreParts (demands_view es) (entries_view c.add_part.new.parts.entries) bound) (sym next)
    (c.in_ok-add_part.ensures.added c.if-not-branch.false bound refl (take i items) c.loop-member.invariant)

pub member_parts-returns-clause-members : goal.member_parts-returns-clause-members
member_parts-returns-clause-members g t c =
    let bound = entries_at g.N.Node.accessors (64 - c.args.depth) (option_map g.N.Node.seen c.args.node) (members_view c.args.object.now.entries) in
    let all = take_all c.loop-member.member-index c.deref-member-items.result.now c.loop-member-test.false ∙ c.deref-member-items.ensures.value in
    subst (λ es. AreParts (demands_view es) (entries_view c.loop-member.parts.entries) bound) all c.loop-member.invariant

pub add_part-returns-in_default-clause-added : goal.add_part-returns-in_default-clause-added
add_part-returns-in_default-clause-added g t c = λ h bound is done k.
    let n = c.args.member.now.0 in
    let o = option_map g.N.Node.seen c.args.node in
    let name = c.as_str-name.ensures in
    let key = subst (λ y. key_at g.N.Node.accessors o y ≡ y) name (c.in_ok-is_found.ensures.found c.if-not-is_found.false) in
    let none = c.in_default.ensures ∙ ap (λ y. get_member y (members_view c.args.object.now.entries)) name in
    part_missing done c.args.member.now (entries_view c.args.parts.now.entries) bound
    (ap (find (text_key n)) is ∙ member_absent g.N.Node.accessors (64 - c.args.depth) o (members_view c.args.object.now.entries) n key none (sym c.is_embedded.ensures ∙ not_true _ h)) k

pub add_part-returns-clause-added : goal.add_part-returns-clause-added
add_part-returns-clause-added g t c = λ h bound is done k.
    let n = c.args.member.now.0 in
    let o = option_map g.N.Node.seen c.args.node in
    let l = 64 - c.args.depth in
    let d = json_view c.in-Some.value.now in
    let part = view c.in_ok-part.part in
    let name = c.as_str-name.ensures in
    let key = subst (λ y. key_at g.N.Node.accessors o y ≡ y) name (c.in_ok-is_found.ensures.found c.if-not-is_found.false) in
    let there = c.in-Some.ensures ∙ ap (λ y. get_member y (members_view c.args.object.now.entries)) name in
    let same : 65 - (c.args.depth + 1) ≡ l = omega arith in
    let inner = c.node_of_member-inner.ensures ∙ ap (node_of_member g.N.Node.accessors o) name in
    let alike = subst (λ p. Alike (part_of c.args.member.now.1) part (value_at g.N.Node.accessors l p d)) inner
    (subst (λ m. Alike (part_of c.args.member.now.1) part (value_at g.N.Node.accessors m (option_map g.N.Node.seen c.node_of_member-inner.result) d)) same c.in_ok-part.ensures.value) in
    let copied = c.in_ok-clone.ensures.cases in
    part_put done c.args.member.now part (value_at g.N.Node.accessors l (node_of_member g.N.Node.accessors o n) d) (entries_view c.args.parts.now.entries) bound (entries_view c.put_new.new.entries.entries)
    (ap (λ y. find (text_key y) (entries_view c.args.parts.now.entries)) (sym copied) ∙ c.in_ok-is_new.ensures.new h)
    (ap (find (text_key n)) is ∙ member_there g.N.Node.accessors l o (members_view c.args.object.now.entries) n key d there) alike
    (c.in_ok-is_new.ensures.entered ∙ ap (λ y. put (text_key y) part (entries_view c.args.parts.now.entries)) copied) k

pub item_parts-item_part-requires : goal.item_parts-item_part-requires
item_parts-item_part-requires g t c κs within =
    let names = subst (λ o. IfSome o (λ ks. AreNamesIn c.args.item.now ks)) (sym c.as_ref-names.ensures.value) c.in_ok-made.ensures.names in
    (omega (arith, c.decreases), ((λ a h. within a h), (c.has_own_names-own.ensures, names)))

pub member_part-returns-clause-part : goal.member_part-returns-clause-part
member_part-returns-clause-part g t c =
    let n = c.args.member.now.0 in
    let o = option_map g.N.Node.seen c.args.node in
    let l = 64 - c.args.depth in
    let d = json_view c.in-Some.value.now in
    let part = view c.in_ok-part.part in
    let name = c.as_str-name.ensures in
    let key = own_key (is_map_at g.N.Node.accessors o) n c.requires.own in
    let there = c.in-Some.ensures ∙ ap (λ y. get_member y (members_view c.args.object.now.entries)) name in
    let same : 65 - (c.args.depth + 1) ≡ l = omega arith in
    let inner = c.node_of_member-inner.ensures ∙ ap (node_of_member g.N.Node.accessors o) name in
    let alike = subst (λ p. Alike (part_of c.args.member.now.1) part (value_at g.N.Node.accessors l p d)) inner
    (subst (λ m. Alike (part_of c.args.member.now.1) part (value_at g.N.Node.accessors m (option_map g.N.Node.seen c.node_of_member-inner.result) d)) same c.in_ok-part.ensures.value) in
    (value_at g.N.Node.accessors l (node_of_member g.N.Node.accessors o n) d, member_there g.N.Node.accessors l o (members_view c.args.object.now.entries) n key d there, alike)

pub shared_members-loop-member-init : goal.shared_members-loop-member-init
shared_members-loop-member-init g t c =
    let bound = entries_at g.N.Node.accessors (64 - c.args.depth) (option_map g.N.Node.seen c.args.node) (members_view c.args.object.now.entries) in
    let parts = c.in_ok-parts.parts in
    let none = c.in_ok-parts.ensures.none in
    (none.0 ∙ c.requires.names ∙ ap name_keys (sym c.deref-member-items.ensures.value), ap length none.1, no_parts (entries_view (shared_entries parts)) bound (no_shared parts.keys parts.values none.1))

pub shared_members-loop-member-preserved : goal.shared_members-loop-member-preserved
shared_members-loop-member-preserved g t c =
    let items = c.deref-member-items.result.now in
    let i = c.loop-member.member-index in
    let m : Entry = c.member-item.result in
    let lt : i < length items = omega (arith, c.loop-member-test.true) in
    let bound = entries_at g.N.Node.accessors (64 - c.args.depth) (option_map g.N.Node.seen c.args.node) (members_view c.args.object.now.entries) in
    let k = c.loop-member.invariant in
    let old = c.loop-member.parts in
    let new = c.push.new.self in
    let count = ap length c.in_ok-push.ensures.values ∙ length_push old.values c.in-Some.part ∙ ap (λ n. n + 1) k.1 in
    let at : slice_get old.keys (length old.values) ≡ Some (key.String (name_of m)) = (λ j. slice_get (k.0 j) (k.1 j)) ∙ name_at items i m lt c.member-item.is in
    let added = c.in_ok-push.ensures.entries (key.String (name_of m)) at in
    let found = subst (λ o. IfSome o (λ v. (w : Data) × (find (text_key (name_of m)) bound ≡ Some w) × Alike (part_of m.1) (view v) w)) c.in-Some.is c.in_ok-found.ensures.part in
    let next = take_more items i m lt ∙ ap (λ y. take i items ++ y ∷ []) (sym c.member-item.is) in
    let parts = part_put (take i items) m (view c.in-Some.part) found.0 (entries_view (shared_entries old)) bound (entries_view (shared_entries new)) added.0 found.1 found.2 added.1 k.2 in
    (c.in_ok-push.ensures.keys ∙ k.0, count, subst (λ es. AreParts (demands_view es) (entries_view (shared_entries new)) bound) (sym next) parts)

pub shared_part-returns-in_ok-map-in-Some-found-clause-value : goal.shared_part-returns-in_ok-map-in-Some-found-clause-value
shared_part-returns-in_ok-map-in-Some-found-clause-value g t c =
    let p = some_members (demands_view c.args.members.now.items) in
    let d = c.args.depth in
    let o = option_map g.N.Node.seen c.args.node in
    let object = members_view c.in-Some.object.now.entries in
    let parts = entries_view (shared_entries c.in-Some-found.parts) in
    let within : d ≤ 64 = c.in-Some.ensures.within in
    let next : 65 - d ≡ suc (64 - d) = omega (arith, within) in
    let bound = object_bound g.N.Node.accessors (65 - d) (64 - d) o (json_view c.args.value.now) object next c.in-Some.ensures.members in
    let whole = entries_at g.N.Node.accessors (64 - d) o object in
    let all : AreParts (demands_view c.args.members.now.items) parts whole = subst (λ o. IfSome o (λ r. AreParts (demands_view c.args.members.now.items) (entries_view (shared_entries r)) whole)) c.in-Some-found.is c.in_ok-found.ensures.members in
    subst (λ v. Alike p v (value_at g.N.Node.accessors (65 - d) o (json_view c.args.value.now))) (sym c.in_ok-map-in-Some-found.ensures.value)
    (subst (λ w. Alike p (map_of parts) w) (sym bound) (inr all.0))

pub item_parts-loop-index-preserved : goal.item_parts-loop-index-preserved
item_parts-loop-index-preserved g t c =
    let items = c.args.items.now.items in
    let i = c.loop-index.index in
    let f = λ (v : Json). value_at g.N.Node.accessors (levels c.args.depth) (option_map g.N.Node.seen c.args.node) (json_view v) in
    let k = c.loop-index.invariant in
    let lt : i < length items = omega (arith, c.loop-index-test.true, c.len-index-end.ensures) in (
      ap length c.in_ok-push.ensures.items ∙ length_push c.loop-index.parts.items c.in_ok-part.part ∙ ap (λ n. n + 1) k.0,
      omega (arith, lt),
      subst (λ ps. ListsAlike (Alike (part_of c.args.item.now)) (map view ps) (map f (take (i + 1) items))) (sym c.in_ok-push.ensures.items)
          (items_more (Alike (part_of c.args.item.now)) c.loop-index.parts.items c.in_ok-part.part f items i c.index.result.now lt c.index.ensures k.2 c.in_ok-part.ensures.value),
    )

pub add_rows-returns-then-not-branch-clause-rows : goal.add_rows-returns-then-not-branch-clause-rows
add_rows-returns-then-not-branch-clause-rows g t c =
    let l = c.loop-value in
    let k = l.invariant in
    let f = λ (v : Json). value_at g.N.Node.accessors (levels c.args.depth) (option_map g.N.Node.seen c.args.node) (json_view v) in
    let p = some_members (demands_view c.args.members.now.items) in
    let row = c.in_ok-add_row.ensures.row in
    let still = rows_still (Alike p) l.rows.keys c.add_row.new.rows.keys l.count l.rows.values row.0 c.add_row.new.rows.values (map f (take l.count c.deref-value-items.result.now)) c.in_ok-add_row.ensures.names row.1 k.3.1 k.3.2 in
    subst (λ (ds : List Json). (l.count ≤ length ds) × (l.count * length c.add_row.new.rows.keys ≤ length c.add_row.new.rows.values)
    × ListsAlike (Alike p) (row_maps c.add_row.new.rows.keys c.add_row.new.rows.values l.count) (map f (take l.count ds))) c.deref-value-items.ensures.value (k.3.0, still.0, still.1)

pub add_rows-loop-value-preserved : goal.add_rows-loop-value-preserved
add_rows-loop-value-preserved g t c =
    let l = c.loop-value in
    let k = l.invariant in
    let items = c.deref-value-items.result.now in
    let f = λ (v : Json). value_at g.N.Node.accessors (levels c.args.depth) (option_map g.N.Node.seen c.args.node) (json_view v) in
    let p = some_members (demands_view c.args.members.now.items) in
    let added = c.in_ok-add_row.ensures.row in
    let whole = added.2 c.if-not-branch.false in
    let lt : l.count < length items = omega (arith, k.0, c.loop-value-test.true) in
    let more = rows_more (Alike p) l.rows.keys c.add_row.new.rows.keys l.count l.rows.values added.0 c.add_row.new.rows.values f items c.value-item.result lt (c.value-item.is ∙ ap (λ i. get_or items i c.value-item.result) (sym k.0))
    c.in_ok-add_row.ensures.names added.1 k.2 whole.0 k.3.2 whole.1 in
    (ap (λ n. n + 1) k.0, c.in_ok-add_row.ensures.names ∙ k.1, more.0, (more.1, more.2, more.3))

pub add_row-loop-member-init : goal.add_row-loop-member-init
add_row-loop-member-init g t c =
    let bound = entries_at g.N.Node.accessors (64 - c.args.depth) (option_map g.N.Node.seen c.args.node) (members_view c.in-Some.object.now.entries) in
    let ks = c.args.rows.now.keys in
    ([], refl, no_further c.args.rows.now.values, refl, no_parts (entries_view (zip {K = Key} {X = Value} ks [])) bound (no_shared ks [] refl))

pub add_row-loop-member-preserved : goal.add_row-loop-member-preserved
add_row-loop-member-preserved g t c =
    let items = c.deref-member-items.result.now in
    let i = c.loop-member.member-index in
    let m : Entry = c.member-item.result in
    let lt : i < length items = omega (arith, c.loop-member-test.true) in
    let bound = entries_at g.N.Node.accessors (64 - c.args.depth) (option_map g.N.Node.seen c.args.node) (members_view c.in-Some.object.now.entries) in
    let k = c.loop-member.invariant in
    let row = k.0 in
    let old = c.loop-member.rows in
    let part = c.in-Some-found.part in
    let more = row ++ part ∷ [] in
    let same = c.in_ok-push.ensures.keys in
    let values = c.in_ok-push.ensures.values.1 ∙ ap (λ b. if b then old.values ++ part ∷ [] else old.values) c.if-not-branch.false in
    let sorted = subst (λ ks. IsStrictlySortedBy key_cmp ks) (sym k.1) c.requires.sorted in
    let names = k.1 ∙ c.requires.names ∙ ap name_keys (sym c.deref-member-items.ensures.value) in
    let at : slice_get old.keys (length row) ≡ Some (key.String (name_of m)) = (λ j. slice_get (names j) (k.3 j)) ∙ name_at items i m lt c.member-item.is in
    let found = subst (λ o. IfSome o (λ v. (w : Data) × (find (text_key (name_of m)) bound ≡ Some w) × Alike (part_of m.1) (view v) w)) c.in-Some-found.is c.in_ok-found.ensures.part in
    let next = take_more items i m lt ∙ ap (λ y. take i items ++ y ∷ []) (sym c.member-item.is) in
    let parts = part_put (take i items) m (view part) found.0 (entries_view (zip old.keys row)) bound (entries_view (zip old.keys more)) (not_there old.keys row (key.String (name_of m)) sorted at) found.1 found.2
    (pushed old.keys row (key.String (name_of m)) part sorted at) k.4 in (
      more,
      same ∙ k.1,
      values ∙ ap (λ vs. vs ++ part ∷ []) k.2 ∙ append_assoc c.args.rows.now.values row (part ∷ []),
      length_push row part ∙ ap (λ n. n + 1) k.3,
      subst (λ ks. AreParts (demands_view (take (i + 1) items)) (entries_view (zip ks more)) bound) (sym same)
          (subst (λ es. AreParts (demands_view es) (entries_view (zip old.keys more)) bound) (sym next) parts),
    )

pub add_row-returns-clause-row : goal.add_row-returns-clause-row
add_row-returns-clause-row g t c =
    let items = c.deref-member-items.result.now in
    let i = c.loop-member.member-index in
    let members = c.args.members.now.items in
    let p = some_members (demands_view members) in
    let d = c.args.depth in
    let o = option_map g.N.Node.seen c.args.node in
    let object = members_view c.in-Some.object.now.entries in
    let k = c.loop-member.invariant in
    let row = k.0 in
    let ks = c.args.rows.now.keys in
    let within : d ≤ 64 = c.in-Some.ensures.within in
    let next : 65 - d ≡ suc (64 - d) = omega (arith, within) in
    let bound = object_bound g.N.Node.accessors (65 - d) (64 - d) o (json_view c.args.value.now) object next c.in-Some.ensures.members in
    let whole = entries_at g.N.Node.accessors (64 - d) o object in
    let every : take i items ≡ members = take_all i items c.loop-member-test.false ∙ c.deref-member-items.ensures.value in
    let all : AreParts (demands_view members) (entries_view (zip ks row)) whole =
    subst (λ l. AreParts (demands_view members) (entries_view (zip l row)) whole) k.1 (subst (λ es. AreParts (demands_view es) (entries_view (zip c.loop-member.rows.keys row)) whole) every k.4) in
    let many : length row ≡ length ks = omega (arith, k.3, c.loop-member-test.false, c.loop-member.auto.member-index-end, ap length c.deref-member-items.ensures.value, names_length members, ap length c.requires.names) in
    (row, k.2, λ h. (many, subst (λ w. Alike p (map_of (entries_view (zip ks row))) w) (sym bound) (inr all.0)))

pub row_parts-returns-clause-count : goal.row_parts-returns-clause-count
row_parts-returns-clause-count g t c =
    let rows = c.add_rows.new.rows in
    let count = c.in_ok-count.count in
    let parts = c.add_maps.new.maps.items in
    let maps = c.in_ok-add_maps.ensures.maps ∙ ap (λ vs. map view vs ++ row_maps rows.keys rows.values count) c.in_ok-parts.ensures.items in
    let many : length parts ≡ count = sym (view_count parts) ∙ ap length maps ∙ rows_count rows.keys rows.values count in
    omega (arith, many, c.in_ok-count.ensures.rows.0)

pub row_parts-returns-clause-items : goal.row_parts-returns-clause-items
row_parts-returns-clause-items g t c =
    let rows = c.add_rows.new.rows in
    let count = c.in_ok-count.count in
    let parts = c.add_maps.new.maps.items in
    let items = c.args.items.now.items in
    let f = λ (v : Json). value_at g.N.Node.accessors (levels c.args.depth) (option_map g.N.Node.seen c.args.node) (json_view v) in
    let maps = c.in_ok-add_maps.ensures.maps ∙ ap (λ vs. map view vs ++ row_maps rows.keys rows.values count) c.in_ok-parts.ensures.items in
    let many : length parts ≡ count = sym (view_count parts) ∙ ap length maps ∙ rows_count rows.keys rows.values count in
    let part = ap part_of c.in-Members.is ∙ members_part c.in-Members.members in
    subst (λ n. ListsAlike (Alike (part_of c.args.item.now)) (map view parts) (map f (take n items))) (sym many)
    (subst (λ ds. ListsAlike (Alike (part_of c.args.item.now)) ds (map f (take count items))) (sym maps)
    (subst (λ p. ListsAlike (Alike p) (row_maps rows.keys rows.values count) (map f (take count items))) (sym part) c.in_ok-count.ensures.rows.2))
