use Rattle.kube_cel_walk.specs.Errors.{error_view}
use Rattle.kube_schema_rules.specs.Inside.{up_to}
use Rattle.kube_schema_rules.specs.Visit.{visit, further, unless_there, member_path, item_path, property_steps, item_steps, additional_steps}
use Rattle.kube_schema_rules.specs.Step.{property, item, additional_property, branch}
use Rattle.kube_cel_walk.specs.Roots.{root_view}
use Rattle.kube_cel_walk.proofs.Entries.{member_in_order, names_of, names_more}
use Rattle.kube_cel_walk.proofs.Gathered.{answer_last, gathered, member_of, through_none, no_item, no_additional_property, one_more, none_up, one_more_up, property_steps_none, property_steps_are, additional_steps_none, additional_steps_are, item_steps_none, item_steps_are, branch_steps_are, property_goes, additional_goes, item_goes, branch_goes}
use Rattle.kube_cel_walk.proofs.NoRules.{no_rules_below}
use Rattle.kube_cel_walk.proofs.Paths.{path_view-Item, path_view-Member}
use Rattle.kube_cel_walk.proofs.walk.+walk.Goals as goal
use Rattle.kube_cel_walk.specs.Answers.{answer, answer_if_reached, found_through}
use Rattle.kube_cel_walk.specs.declared.path.Path.TheVariants as path
use Rattle.kube_cel_walk.specs.Paths.{path_view}
use Rattle.kube_cel_walk.specs.Visits.{visit_at}
use Rattle.serde_json.proofs.Views.{Entry, get_item_within}
use Rattle.serde_json.specs.Find.{get}
use Rattle.serde_json.specs.View.{view, members_view, items_view}
use Rattle.std.proofs.Common.{rules, Option, ◌≡◌, ◌<◌, suc, ◌+◌, ◌-◌, [], ◌∷◌, ◌++◌, map, option_map, option_and_then, None, Some, refl, sym, ap, ◌∙◌, subst, append_assoc, append-nil, string_bytes, string_cmp, arith, length}
use Rattle.std.specs.List.Sorted.{IsStrictlySortedBy}
use Rattle.std.specs.Map.{keys_of}

pub walk_node-returns-then-state-eq-TOO_DEEP-clause-found : goal.walk_node-returns-then-state-eq-TOO_DEEP-clause-found
walk_node-returns-then-state-eq-TOO_DEEP-clause-found g t c = λ b h.
    let full : 65 - c.args.state.now.depth ≡ 0 = omega arith in
    let old = map error_view c.args.errors.now.items in
    c.in_ok-validate_at.ensures.found b h
    ∙ sym (ap (λ r. old ++ r) (answer_last g.N.Node.form b (65 - c.args.state.now.depth) (visit_at g.N.Node.seen c.args.state.now (path_view c.args.path.now)) full))

pub walk_node-returns-then-has_no_rules_below-clause-found : goal.walk_node-returns-then-has_no_rules_below-clause-found
walk_node-returns-then-has_no_rules_below-clause-found g t c = λ b h.
    let full : 65 - c.args.state.now.depth ≡ suc (64 - c.args.state.now.depth) = omega arith in
    let last : c.args.state.now.depth + (64 - c.args.state.now.depth) ≡ 64 = omega arith in
    let old = map error_view c.args.errors.now.items in
    let s = visit_at g.N.Node.seen c.args.state.now (path_view c.args.path.now) in
    c.in_ok-validate_at.ensures.found b h
    ∙ sym (ap (λ r. old ++ r)
    (no_rules_below g.N.Node.form b (65 - c.args.state.now.depth) (64 - c.args.state.now.depth) s full last (c.has_no_rules_below.ensures c.if-has_no_rules_below.true)))

pub walk_node-returns-clause-found : goal.walk_node-returns-clause-found
walk_node-returns-clause-found g t c = λ b h.
    let full : 65 - c.args.state.now.depth ≡ suc (64 - c.args.state.now.depth) = omega arith in
    let state = c.args.state.now in
    let n = 64 - c.args.state.now.depth in
    let e0 = map error_view c.args.errors.now.items in
    let e1 = map error_view c.validate_at.new.errors.items in
    let e2 = map error_view c.walk_properties.new.errors.items in
    let e3 = map error_view c.walk_items.new.errors.items in
    let e4 = map error_view c.walk_extras.new.errors.items in
    let e5 = map error_view c.walk_branches.new.errors.items in
    let e6 = map error_view c.walk_branches-2.new.errors.items in
    let e7 = map error_view c.walk_branches-3.new.errors.items in
    let h6 = c.in_ok-walk_branches-3.ensures.keeps b h in
    let h5 = c.in_ok-walk_branches-2.ensures.keeps b h6 in
    let h4 = c.in_ok-walk_branches.ensures.keeps b h5 in
    let h3 = c.in_ok-walk_extras.ensures.keeps b h4 in
    let h2 = c.in_ok-walk_items.ensures.keeps b h3 in
    let h1 = c.in_ok-walk_properties.ensures.keeps b h2 in
    gathered g.N.Node.form b (65 - c.args.state.now.depth) n (visit_at g.N.Node.seen state (path_view c.args.path.now)) e0 e1 e2 e3 e4 e5 e6 e7 full
    (c.in_ok-validate_at.ensures.found b h1)
    (c.in_ok-walk_properties.ensures.found b h2)
    (c.in_ok-walk_items.ensures.found b h3)
    (c.in_ok-walk_extras.ensures.found b h4)
    (c.in_ok-walk_branches.ensures.found b h5)
    (c.in_ok-walk_branches-2.ensures.found b h6)
    (c.in_ok-walk_branches-3.ensures.found b h)

-- ---- declared members

pub walk_properties-returns-in_default-clause-found : goal.walk_properties-returns-in_default-clause-found
walk_properties-returns-in_default-clause-found g t c = λ b h.
    let s = visit_at g.N.Node.seen c.args.state.now (path_view c.args.path.now) in
    through_none g.N.Node.form b (64 - c.args.state.now.depth) s (map error_view c.args.errors.now.items) (property_steps g.N.Node.form.steps s) (property_steps_none g.N.Node.form.steps s c.in_default.ensures)

pub walk_properties-loop-key-init : goal.walk_properties-loop-key-init
walk_properties-loop-key-init g t c = record {
  done = [];
  all = search rules;
  ordered = search rules;
  keeps = λ b h. h;
  found = λ b h. through_none g.N.Node.form b (64 - c.args.state.now.depth) (visit_at g.N.Node.seen c.args.state.now (path_view c.args.path.now)) (map error_view c.args.errors.now.items) [] refl;
}

pub walk_properties-loop-key-preserved : goal.walk_properties-loop-key-preserved
walk_properties-loop-key-preserved g t c =
    let l = c.loop-key in
    let done = l.invariant.done in
    let e : Entry = (c.in-Some-2.key.now, c.in-Some-2.member.now) in
    let k = string_bytes e.0 in
    let left = c.next.new.self in
    let s = visit_at g.N.Node.seen c.args.state.now (path_view c.args.path.now) in
    let n = 64 - c.args.state.now.depth in
    let d = c.args.state.now.depth in
    let v = view c.args.state.now.value.now in
    let o = option_map (λ x. view x.now) c.args.state.now.old in
    let had = map error_view l.errors.items in
    let joined : done ++ l.key-iterator ≡ done ++ e ∷ left = ap (λ es. done ++ es) c.in-Some-2.ensures.steps in
    let moved : done ++ l.key-iterator ≡ (done ++ e ∷ []) ++ left = joined ∙ sym (append_assoc done (e ∷ []) left) in
    let m = view e.1 in
    let here : get k v ≡ Some m = member_of k v (members_view (done ++ e ∷ left)) (ap (λ es. Some (members_view es)) (sym joined) ∙ l.invariant.all) ∙ member_in_order done e left (subst (λ es. IsStrictlySortedBy string_cmp (keys_of es)) joined l.invariant.ordered) in
    let form = g.N.Node.form in
    let node = g.N.Node.seen c.args.state.now.node in
    let goes_there = property_goes form.steps s k (form.steps.property k node) refl in
    record {
      done = done ++ e ∷ [];
      all = ap (λ es. Some (members_view es)) (sym moved) ∙ l.invariant.all;
      ordered = subst (λ es. IsStrictlySortedBy string_cmp (keys_of es)) moved l.invariant.ordered;
      keeps = λ b h. l.invariant.keeps b (c.in_ok-walk_member.ensures.keeps b h);
      found = λ b h.
          let name = c.as_str-name.result.now in
          let more : map error_view c.walk_member.new.errors.items ≡ had ++ answer_if_reached form b n (further None d (member_path (path_view c.args.path.now) k) (form.steps.property k node) (get k v) (option_and_then (g.N.Node.form.steps.old_member k (g.N.Node.seen c.args.state.now.node)) o)) =
          c.in_ok-walk_member.ensures.found b h
          ∙ ap (λ w. had ++ answer_if_reached form b n (further None d (member_path (path_view c.args.path.now) name) w (Some m) (option_and_then (g.N.Node.form.steps.old_member name (g.N.Node.seen c.args.state.now.node)) o))) c.property-node.ensures
          ∙ ap (λ q. had ++ answer_if_reached form b n (further None d (member_path (path_view c.args.path.now) q) (form.steps.property q node) (Some m) (option_and_then (g.N.Node.form.steps.old_member q (g.N.Node.seen c.args.state.now.node)) o))) c.as_str-name.ensures.value
          ∙ ap (λ w. had ++ answer_if_reached form b n (further None d (member_path (path_view c.args.path.now) k) (form.steps.property k node) w (option_and_then (g.N.Node.form.steps.old_member k (g.N.Node.seen c.args.state.now.node)) o))) (sym here) in
          one_more form b n s property (names_of done) k (map error_view c.args.errors.now.items) had (map error_view c.walk_member.new.errors.items)
          (l.invariant.found b (c.in_ok-walk_member.ensures.keeps b h)) (more ∙ ap (λ r. had ++ answer_if_reached form b n r) (sym goes_there))
          ∙ ap (λ ks. map error_view c.args.errors.now.items ++ found_through form b n s (map property ks)) (sym (names_more done e));
    }

pub walk_properties-returns-clause-found : goal.walk_properties-returns-clause-found
walk_properties-returns-clause-found g t c = λ b h.
    let l = c.loop-key in
    let s = visit_at g.N.Node.seen c.args.state.now (path_view c.args.path.now) in
    let ended : l.invariant.done ++ l.key-iterator ≡ l.invariant.done = ap (λ es. l.invariant.done ++ es) c.in-None.ensures.steps.0 ∙ append-nil l.invariant.done in
    let steps = property_steps_are g.N.Node.form.steps s l.invariant.done (ap (λ es. Some (members_view es)) (sym ended) ∙ l.invariant.all) (subst (λ es. IsStrictlySortedBy string_cmp (keys_of es)) ended l.invariant.ordered) in
    l.invariant.found b h ∙ ap (λ ps. map error_view c.args.errors.now.items ++ found_through g.N.Node.form b (64 - c.args.state.now.depth) s ps) (sym steps)

-- ---- additional members

pub walk_extras-returns-in_default-clause-found : goal.walk_extras-returns-in_default-clause-found
walk_extras-returns-in_default-clause-found g t c = λ b h.
    no_additional_property g.N.Node.form b (64 - c.args.state.now.depth) (visit_at g.N.Node.seen c.args.state.now (path_view c.args.path.now)) (map error_view c.args.errors.now.items) c.in_default.ensures

pub walk_extras-returns-in_default-as_object-clause-found : goal.walk_extras-returns-in_default-as_object-clause-found
walk_extras-returns-in_default-as_object-clause-found g t c = λ b h.
    let s = visit_at g.N.Node.seen c.args.state.now (path_view c.args.path.now) in
    through_none g.N.Node.form b (64 - c.args.state.now.depth) s (map error_view c.args.errors.now.items) (additional_steps g.N.Node.form.steps s) (additional_steps_none g.N.Node.form.steps s c.in_default-as_object.ensures)

pub walk_extras-loop-key-init : goal.walk_extras-loop-key-init
walk_extras-loop-key-init g t c = record {
  done = [];
  all = search rules;
  ordered = search rules;
  keeps = λ b h. h;
  found = λ b h. through_none g.N.Node.form b (64 - c.args.state.now.depth) (visit_at g.N.Node.seen c.args.state.now (path_view c.args.path.now)) (map error_view c.args.errors.now.items) [] refl;
}

pub walk_extras-loop-key-preserved : goal.walk_extras-loop-key-preserved
walk_extras-loop-key-preserved g t c =
    let l = c.loop-key in
    let done = l.invariant.done in
    let e : Entry = (c.in-Some-2.key.now, c.in-Some-2.member.now) in
    let k = string_bytes e.0 in
    let left = c.next.new.self in
    let s = visit_at g.N.Node.seen c.args.state.now (path_view c.args.path.now) in
    let n = 64 - c.args.state.now.depth in
    let d = c.args.state.now.depth in
    let v = view c.args.state.now.value.now in
    let o = option_map (λ x. view x.now) c.args.state.now.old in
    let other = g.N.Node.seen c.in-Some.other in
    let had = map error_view l.errors.items in
    let joined : done ++ l.key-iterator ≡ done ++ e ∷ left = ap (λ es. done ++ es) c.in-Some-2.ensures.steps in
    let moved : done ++ l.key-iterator ≡ (done ++ e ∷ []) ++ left = joined ∙ sym (append_assoc done (e ∷ []) left) in
    let m = view e.1 in
    let here : get k v ≡ Some m = member_of k v (members_view (done ++ e ∷ left)) (ap (λ es. Some (members_view es)) (sym joined) ∙ l.invariant.all) ∙ member_in_order done e left (subst (λ es. IsStrictlySortedBy string_cmp (keys_of es)) joined l.invariant.ordered) in
    let goes_there = additional_goes g.N.Node.form.steps s k other c.in-Some.ensures in
    record {
      done = done ++ e ∷ [];
      all = ap (λ es. Some (members_view es)) (sym moved) ∙ l.invariant.all;
      ordered = subst (λ es. IsStrictlySortedBy string_cmp (keys_of es)) moved l.invariant.ordered;
      keeps = λ b h. l.invariant.keeps b (c.in_ok-walk_member.ensures.keeps b h);
      found = λ b h.
          let name = c.as_str-name.result.now in
          let node = g.N.Node.seen c.args.state.now.node in
          let more : map error_view c.walk_member.new.errors.items ≡ had ++ answer_if_reached g.N.Node.form b n (further None d (member_path (path_view c.args.path.now) k) (unless_there (g.N.Node.form.steps.property k node) (Some other)) (get k v) (option_and_then (g.N.Node.form.steps.old_member k (g.N.Node.seen c.args.state.now.node)) o)) =
          c.in_ok-walk_member.ensures.found b h
          ∙ ap (λ w. had ++ answer_if_reached g.N.Node.form b n (further None d (member_path (path_view c.args.path.now) name) w (Some m) (option_and_then (g.N.Node.form.steps.old_member name (g.N.Node.seen c.args.state.now.node)) o))) c.unless_declared-node.ensures
          ∙ ap (λ q. had ++ answer_if_reached g.N.Node.form b n (further None d (member_path (path_view c.args.path.now) q) (unless_there (g.N.Node.form.steps.property q node) (Some other)) (Some m) (option_and_then (g.N.Node.form.steps.old_member q (g.N.Node.seen c.args.state.now.node)) o))) c.as_str-name.ensures.value
          ∙ ap (λ w. had ++ answer_if_reached g.N.Node.form b n (further None d (member_path (path_view c.args.path.now) k) (unless_there (g.N.Node.form.steps.property k node) (Some other)) w (option_and_then (g.N.Node.form.steps.old_member k (g.N.Node.seen c.args.state.now.node)) o))) (sym here) in
          one_more g.N.Node.form b n s additional_property (names_of done) k (map error_view c.args.errors.now.items) had (map error_view c.walk_member.new.errors.items)
          (l.invariant.found b (c.in_ok-walk_member.ensures.keeps b h)) (more ∙ ap (λ r. had ++ answer_if_reached g.N.Node.form b n r) (sym goes_there))
          ∙ ap (λ ks. map error_view c.args.errors.now.items ++ found_through g.N.Node.form b n s (map additional_property ks)) (sym (names_more done e));
    }

pub walk_extras-returns-clause-found : goal.walk_extras-returns-clause-found
walk_extras-returns-clause-found g t c = λ b h.
    let l = c.loop-key in
    let s = visit_at g.N.Node.seen c.args.state.now (path_view c.args.path.now) in
    let ended : l.invariant.done ++ l.key-iterator ≡ l.invariant.done = ap (λ es. l.invariant.done ++ es) c.in-None.ensures.steps.0 ∙ append-nil l.invariant.done in
    let steps = additional_steps_are g.N.Node.form.steps s l.invariant.done (ap (λ es. Some (members_view es)) (sym ended) ∙ l.invariant.all) (subst (λ es. IsStrictlySortedBy string_cmp (keys_of es)) ended l.invariant.ordered) in
    l.invariant.found b h ∙ ap (λ ps. map error_view c.args.errors.now.items ++ found_through g.N.Node.form b (64 - c.args.state.now.depth) s ps) (sym steps)

-- ---- one member

pub walk_member-returns-in_default-clause-found : goal.walk_member-returns-in_default-clause-found
unfolding answer_if_reached
walk_member-returns-in_default-clause-found g t c = λ b h.
    let old = map error_view c.args.errors.now.items in
    let k = c.args.key.now in
    let there = λ (node : Option _). further None c.args.state.now.depth (member_path (path_view c.args.path.now) k) (option_map g.N.Node.seen node) (Some (view c.args.value.now))
    (option_and_then (g.N.Node.form.steps.old_member k (g.N.Node.seen c.args.state.now.node)) (option_map (λ x. view x.now) c.args.state.now.old)) in
    sym (ap (λ (node : Option _). old ++ answer_if_reached g.N.Node.form b (64 - c.args.state.now.depth) (there node)) c.in_default.is ∙ append-nil old)

pub walk_member-returns-clause-found : goal.walk_member-returns-clause-found
unfolding answer_if_reached
walk_member-returns-clause-found g t c = λ b h.
    let d = c.args.state.now.depth in
    let full : 65 - (d + 1) ≡ 64 - d = omega arith in
    let old = map error_view c.args.errors.now.items in
    let k = c.args.key.now in
    let p = g.N.Node.seen c.in-Some.node in
    let m = view c.args.value.now in
    let o = option_map (λ x. view x.now) c.old_member.result in
    c.in_ok-walk_node.ensures.found b h
    ∙ ap (λ n. old ++ answer g.N.Node.form b n (visit p m o None (path_view (path.Member c.args.path c.args.key)) (d + 1))) full
    ∙ ap (λ u. old ++ answer g.N.Node.form b (64 - d) (visit p m o None u (d + 1))) (path_view-Member c.args.path c.args.key)
    ∙ ap (λ o. old ++ answer g.N.Node.form b (64 - d) (visit p m o None (member_path (path_view c.args.path.now) k) (d + 1))) c.old_member.ensures
    ∙ ap (λ (node : Option _). old ++ answer_if_reached g.N.Node.form b (64 - d) (further None d (member_path (path_view c.args.path.now) k) (option_map g.N.Node.seen node) (Some m) (option_and_then (g.N.Node.form.steps.old_member k (g.N.Node.seen c.args.state.now.node)) (option_map (λ x. view x.now) c.args.state.now.old)))) (sym c.in-Some.is)

-- ---- items

pub walk_items-returns-in_default-clause-found : goal.walk_items-returns-in_default-clause-found
walk_items-returns-in_default-clause-found g t c = λ b h.
    no_item g.N.Node.form b (64 - c.args.state.now.depth) (visit_at g.N.Node.seen c.args.state.now (path_view c.args.path.now)) (map error_view c.args.errors.now.items) c.in_default.ensures

pub walk_items-returns-in_default-as_array-clause-found : goal.walk_items-returns-in_default-as_array-clause-found
walk_items-returns-in_default-as_array-clause-found g t c = λ b h.
    let s = visit_at g.N.Node.seen c.args.state.now (path_view c.args.path.now) in
    through_none g.N.Node.form b (64 - c.args.state.now.depth) s (map error_view c.args.errors.now.items) (item_steps g.N.Node.form.steps s) (item_steps_none g.N.Node.form.steps s c.in_default-as_array.ensures)

pub walk_items-loop-index-init : goal.walk_items-loop-index-init
walk_items-loop-index-init g t c = record {
  keeps = λ b h. h;
  found = λ b h. none_up g.N.Node.form b (64 - c.args.state.now.depth) (visit_at g.N.Node.seen c.args.state.now (path_view c.args.path.now)) item (map error_view c.args.errors.now.items);
}

pub walk_items-loop-index-preserved : goal.walk_items-loop-index-preserved
walk_items-loop-index-preserved g t c =
    let l = c.loop-index in
    let s = visit_at g.N.Node.seen c.args.state.now (path_view c.args.path.now) in
    let n = 64 - c.args.state.now.depth in
    let had = map error_view l.errors.items in
    let vs = c.in-Some-as_array.items.now.items in
    let node = g.N.Node.seen c.in-Some.node in
    let v = view c.index.result.now in
    let within : l.index < length c.in-Some-as_array.items.now.items = omega arith in
    let here = ap (λ v. Some (view v)) c.index.ensures ∙ get_item_within vs l.index c.index.result.now within in
    let there = item_goes g.N.Node.form.steps s l.index node v (items_view vs) c.in-Some.ensures c.in-Some-as_array.ensures here in
    record {
      keeps = λ b h. l.invariant.keeps b (c.in_ok-walk_item.ensures.keeps b h);
      found = λ b h. one_more_up g.N.Node.form b n s item l.index (map error_view c.args.errors.now.items) had (map error_view c.walk_item.new.errors.items)
          (l.invariant.found b (c.in_ok-walk_item.ensures.keeps b h))
          (c.in_ok-walk_item.ensures.found b h
          ∙ ap (λ r. had ++ answer_if_reached g.N.Node.form b n r) (sym there));
    }

pub walk_items-returns-clause-found : goal.walk_items-returns-clause-found
walk_items-returns-clause-found g t c = λ b h.
    let s = visit_at g.N.Node.seen c.args.state.now (path_view c.args.path.now) in
    let old = map error_view c.args.errors.now.items in
    let n = 64 - c.args.state.now.depth in
    let ended : c.loop-index.index ≡ length c.in-Some-as_array.items.now.items = omega arith in
    c.loop-index.invariant.found b h
    ∙ ap (λ m. old ++ found_through g.N.Node.form b n s (map item (up_to m))) ended
    ∙ ap (λ ps. old ++ found_through g.N.Node.form b n s ps) (sym (item_steps_are g.N.Node.form.steps s c.in-Some-as_array.items.now.items c.in-Some-as_array.ensures))

pub walk_item-returns-clause-found : goal.walk_item-returns-clause-found
unfolding answer_if_reached
walk_item-returns-clause-found g t c = λ b h.
    let d = c.args.state.now.depth in
    let full : 65 - (d + 1) ≡ 64 - d = omega arith in
    let old = map error_view c.args.errors.now.items in
    let p = g.N.Node.seen c.args.node in
    let m = view c.args.value.now in
    let o = option_map (λ x. view x.now) c.old_item.result in
    c.in_ok-walk_node.ensures.found b h
    ∙ ap (λ n. old ++ answer g.N.Node.form b n (visit p m o None (path_view (path.Item c.args.path c.args.index)) (d + 1))) full
    ∙ ap (λ u. old ++ answer g.N.Node.form b (64 - d) (visit p m o None u (d + 1))) (path_view-Item c.args.path c.args.index)
    ∙ ap (λ o. old ++ answer g.N.Node.form b (64 - d) (visit p m o None (item_path (path_view c.args.path.now) c.args.index) (d + 1))) c.old_item.ensures

-- ---- branches

pub walk_branches-loop-index-init : goal.walk_branches-loop-index-init
walk_branches-loop-index-init g t c = record {
  keeps = λ b h. h;
  found = λ b h. none_up g.N.Node.form b (64 - c.args.state.now.depth) (visit_at g.N.Node.seen c.args.state.now (path_view c.args.path.now)) (branch c.args.kind) (map error_view c.args.errors.now.items);
}

pub walk_branches-loop-index-preserved : goal.walk_branches-loop-index-preserved
walk_branches-loop-index-preserved g t c =
    let l = c.loop-index in
    let s = visit_at g.N.Node.seen c.args.state.now (path_view c.args.path.now) in
    let n = 64 - c.args.state.now.depth in
    let had = map error_view l.errors.items in
    record {
      keeps = λ b h. l.invariant.keeps b (c.in_ok-walk_branch.ensures.keeps b h);
      found = λ b h. one_more_up g.N.Node.form b n s (branch c.args.kind) l.index (map error_view c.args.errors.now.items) had (map error_view c.walk_branch.new.errors.items)
          (l.invariant.found b (c.in_ok-walk_branch.ensures.keeps b h))
          (c.in_ok-walk_branch.ensures.found b h);
    }

pub walk_branches-returns-clause-found : goal.walk_branches-returns-clause-found
walk_branches-returns-clause-found g t c = λ b h.
    let s = visit_at g.N.Node.seen c.args.state.now (path_view c.args.path.now) in
    let old = map error_view c.args.errors.now.items in
    let n = 64 - c.args.state.now.depth in
    let ended : c.loop-index.index ≡ c.branch_count-index-end.result = omega arith in
    c.loop-index.invariant.found b h
    ∙ ap (λ m. old ++ found_through g.N.Node.form b n s (map (branch c.args.kind) (up_to m))) (ended ∙ c.branch_count-index-end.ensures)
    ∙ ap (λ ps. old ++ found_through g.N.Node.form b n s ps) (sym (branch_steps_are g.N.Node.form.steps c.args.kind s))

pub walk_branch-returns-in_default-node-clause-found : goal.walk_branch-returns-in_default-node-clause-found
unfolding answer_if_reached
walk_branch-returns-in_default-node-clause-found g t c = λ b h.
    let s = visit_at g.N.Node.seen c.args.state.now (path_view c.args.path.now) in
    let old = map error_view c.args.errors.now.items in
    sym (ap (λ o. old ++ answer_if_reached g.N.Node.form b (64 - c.args.state.now.depth) o) (branch_goes g.N.Node.form.steps c.args.kind s c.args.index None c.in_default-node.ensures) ∙ append-nil old)

pub walk_branch-returns-clause-found : goal.walk_branch-returns-clause-found
unfolding answer_if_reached
walk_branch-returns-clause-found g t c = λ b h.
    let d = c.args.state.now.depth in
    let full : 65 - (d + 1) ≡ 64 - d = omega arith in
    let s = visit_at g.N.Node.seen c.args.state.now (path_view c.args.path.now) in
    let old = map error_view c.args.errors.now.items in
    let p = g.N.Node.seen c.in_Some-node.node in
    let v = view c.args.state.now.value.now in
    let o = option_map (λ x. view x.now) c.args.state.now.old in
    let r = option_map (λ x. root_view x.now) c.args.state.now.root in
    c.in_ok-walk_node.ensures.found b h
    ∙ ap (λ m. old ++ answer g.N.Node.form b m (visit p v o r (path_view c.args.path.now) (d + 1))) full
    ∙ ap (λ x. old ++ answer_if_reached g.N.Node.form b (64 - d) x) (sym (branch_goes g.N.Node.form.steps c.args.kind s c.args.index (Some p) c.in_Some-node.ensures))
