-- The value at a place is a part of the value at the root.
use Rattle.cel.specs.Members.{index_outcome, nth_item, selection}
use Rattle.cel_value.specs.Data as cel
use Rattle.cel_value.specs.Data.{text_key}
use Rattle.cel_value.specs.Faults.{no_key, out_of_bounds}
use Rattle.kube_cel.specs.Compiled.{compiled_accessors}
use Rattle.kube_cel.specs.Parts.{is_branch, part_along, part_at}
use Rattle.kube_cel.specs.Raw.{raw_accessors}
use Rattle.kube_schema.specs.RulesRaw.{declared_property, raw_steps, undeclared_property}
use Rattle.kube_schema.specs.Step.{Step, property, item, additional_property, branch}
use Rattle.kube_schema.specs.Visit.{Root, Visit, further, goes, item_path, member_path, unless_there, visit}
use Rattle.kube_schema.specs.Walk.{leads}
use Rattle.kube_cel.specs.CompiledSteps.{compiled_steps}
use Rattle.kube_cel_walk.specs.Answers.{bound_at}
use Rattle.kube_cel_walk.specs.WalkAccessors.{WalkAccessors}
use Rattle.kube_schema.specs.CompiledConversion.{tree_accessors}
use Rattle.kube_schema.specs.Tree.{own}
use Rattle.kube_schema.specs.Tree as tree
use Rattle.kube_schema_values.proofs.Fields.{found_in_object}
use Rattle.kube_schema.specs.Conversion.{ConversionAccessors, items_by, member_by, member_key, member_node, or_else, raw, to_cel, to_cel_by}
use Rattle.kube_schema.specs.Fields.{field_besides}
use Rattle.kube_schema.specs.Node.{additional_of, items_of, property_of}
use Rattle.serde_json.specs.Data.{Data, null, boolean, number, string, array, object, Items, no_items, item as one_item}
use Rattle.serde_json.specs.Find.{as_bool, at, get, get_item}
use Rattle.std.proofs.Common.{◌≡◌, ◌≤◌, ◌+◌, ◌-◌, ◌||◌, ℕ, zero, suc, List, [], ◌∷◌, length, Bool, true, false, if◌then◌else◌, codes, pos, Option, Some, None, option_map, option_and_then, Ok, Err, refl, sym, ap, ◌∙◌, arith}
use Rattle.std.specs.List.{list_any}
use Rattle.std.specs.Option.{option_map_or, unwrap_or}
use Rattle.std.specs.Result.{result_ok}

-- ---- one step into a bound value

nth_bound : (f : Data → cel.Data) (i : ℕ) (ds : Items) → nth_item i (items_by f ds) ≡ option_map f (get_item i ds)
nth_bound f i no_items = refl
nth_bound f zero (one_item d ds) = refl
nth_bound f (suc i) (one_item d ds) = nth_bound f i ds

module _ {S : Type 0} (accessors : ConversionAccessors S) (n : ℕ) (node p : S) where
  member_part : (k : List ℕ) (value w : Data) → member_node accessors node k ≡ Some p → get k value ≡ Some w
      → selection (text_key (member_key accessors node k)) (to_cel accessors (suc n) node value) ≡ Ok (to_cel accessors n p w)
  unfolding to_cel to_cel_by member_by
  member_part k null w here found = cc
  member_part k (boolean b) w here found = cc
  member_part k (number x) w here found = cc
  member_part k (string s) w here found = cc
  member_part k (array ds) w here found = cc
  member_part k (object ms) w here found =
      ap (λ o. option_map_or Ok o (Err (no_key (text_key (member_key accessors node k)))))
      (found_in_object accessors (to_cel accessors n) node ms k
      ∙ ap (λ g. or_else (option_map (member_by accessors (to_cel accessors n) node k) g) (field_besides (accessors.is_embedded node) k)) found
      ∙ ap (λ o. Some (option_map_or (λ q. to_cel accessors n q w) o (to_cel accessors 0 node w))) here)

  item_part : (i : ℕ) (value w : Data) → accessors.items node ≡ Some p → at i value ≡ Some w
      → index_outcome (to_cel accessors (suc n) node value) (cel.int (pos i)) ≡ Ok (to_cel accessors n p w)
  unfolding to_cel to_cel_by
  item_part i null w here found = cc
  item_part i (boolean b) w here found = cc
  item_part i (number x) w here found = cc
  item_part i (string s) w here found = cc
  item_part i (object ms) w here found = cc
  item_part i (array ds) w here found =
      ap (λ o. index_outcome (option_map_or (λ q. cel.list (items_by (to_cel accessors n q) ds)) o (to_cel accessors 0 node (array ds))) (cel.int (pos i))) here
      ∙ ap (λ o. option_map_or Ok o (Err out_of_bounds)) (nth_bound (to_cel accessors n p) i ds ∙ ap (option_map (to_cel accessors n p)) found)

-- ---- forms in which the walk and the binding read the same nodes

pub record SeesAlike {S : Type 0} (form : WalkAccessors S) (conversion : ConversionAccessors S) : Type 0 where
  pub property : (k : List ℕ) (node : S) → form.steps.property k node ≡ conversion.property k node
  pub items : (node : S) → form.steps.items node ≡ conversion.items node
  pub additional : (node p : S) → form.steps.additional_property node ≡ Some p → conversion.additional node ≡ Some p
  pub old_member : (k : List ℕ) (node : S) (old : Data) → form.steps.old_member k node old ≡ get k old
  pub old_item : (i : ℕ) (node : S) (value old : Data) → form.steps.old_item i node value old ≡ at i old
  pub bound : (depth : ℕ) (node : S) (value : Data) → form.bound depth node value ≡ to_cel conversion (65 - depth) node value

unless_kept : {S : Type 0} (kept : Bool) (o : Option S) (p : S) → (if kept then None else o) ≡ Some p → o ≡ Some p
unless_kept true o p e = cc
unless_kept false o p e = e

pub raw_sees_alike : SeesAlike raw_accessors raw
unfolding raw_accessors raw_steps raw declared_property undeclared_property property_of items_of additional_of
raw_sees_alike = record {
  property = λ k node. refl;
  items = λ node. refl;
  additional = λ node p e. unless_kept (unwrap_or (option_and_then as_bool (get (codes "x-kubernetes-preserve-unknown-fields") node)) false) (additional_of node) p e;
  old_member = λ k node old. refl;
  old_item = λ i node value old. refl;
  bound = λ depth node value. refl;
}

pub tree_sees_alike : SeesAlike compiled_accessors tree_accessors
unfolding compiled_accessors compiled_steps tree_accessors
tree_sees_alike = record {
  property = λ k node. refl;
  items = λ node. refl;
  additional = λ node p e. unless_kept (own node).preserves (tree.additional_of node) p e;
  old_member = λ k node old. refl;
  old_item = λ i node value old. refl;
  bound = λ depth node value. refl;
}

-- ---- one step of a walk

-- a visit one step further, part by part
record Reached {S : Type 0} (depth : ℕ) (node : Option S) (value old : Option Data) (t : Visit S) : Type 0 where
  node_there : node ≡ Some t.node
  value_there : value ≡ Some t.value
  old_there : old ≡ t.old
  deeper : depth + 1 ≡ t.depth

reached : {S : Type 0} (root : Option Root) (depth : ℕ) (path : List ℕ) (node : Option S) (value old : Option Data) (t : Visit S)
    → further root depth path node value old ≡ Some t → Reached depth node value old t
reached root depth path None value old t e = cc
reached root depth path (Some n) None old t e = cc
reached root depth path (Some n) (Some v) old t e =
    let same : visit n v old root path (depth + 1) ≡ t = cc in
    record { node_there = ap (λ s. Some s.node) same; value_there = ap (λ s. Some s.value) same; old_there = ap (λ s. s.old) same; deeper = ap (λ s. s.depth) same }

undeclared : {S : Type 0} (a b : Option S) (p : S) → unless_there a b ≡ Some p → (a ≡ None) × (b ≡ Some p)
undeclared None b p e = (refl, e)
undeclared (Some s) b p e = cc

module _ {S : Type 0} (form : WalkAccessors S) (conversion : ConversionAccessors S) (alike : SeesAlike form conversion) where
  declared_node : (k : List ℕ) (node p : S) → form.steps.property k node ≡ Some p → member_node conversion node k ≡ Some p
  declared_node k node p e = ap (λ o. or_else o (conversion.additional node)) (sym (alike.property k node) ∙ e)

  undeclared_node : (k : List ℕ) (node p : S) → unless_there (form.steps.property k node) (form.steps.additional_property node) ≡ Some p → member_node conversion node k ≡ Some p
  undeclared_node k node p e =
      let u = undeclared (form.steps.property k node) (form.steps.additional_property node) p e in
      ap (λ o. or_else o (conversion.additional node)) (sym (alike.property k node) ∙ u.0) ∙ alike.additional node p u.1

  -- with the levels that apply there, one fewer after each step
  value_part : (p : Step) (s t : Visit S) (n : ℕ) → is_branch p ≡ false → goes form.steps p s ≡ Some t
      → part_at form conversion s.node p (to_cel conversion (suc n) s.node s.value) ≡ Ok (to_cel conversion n t.node t.value)
  unfolding goes
  value_part (property k) s t n b e =
      let r = reached None s.depth (member_path s.path k) (form.steps.property k s.node) (get k s.value) (option_and_then (form.steps.old_member k s.node) s.old) t e in
      member_part conversion n s.node t.node k s.value t.value (declared_node k s.node t.node r.node_there) r.value_there
  value_part (item i) s t n b e =
      let r = reached None s.depth (item_path s.path i) (form.steps.items s.node) (at i s.value) (option_and_then (form.steps.old_item i s.node s.value) s.old) t e in
      item_part conversion n s.node t.node i s.value t.value (sym (alike.items s.node) ∙ r.node_there) r.value_there
  value_part (additional_property k) s t n b e =
      let r = reached None s.depth (member_path s.path k) (unless_there (form.steps.property k s.node) (form.steps.additional_property s.node)) (get k s.value) (option_and_then (form.steps.old_member k s.node) s.old) t e in
      member_part conversion n s.node t.node k s.value t.value (undeclared_node k s.node t.node r.node_there) r.value_there
  value_part (branch kind j) s t n b e = cc

  old_part : (p : Step) (s t : Visit S) (n : ℕ) (o q : Data) → is_branch p ≡ false → goes form.steps p s ≡ Some t → s.old ≡ Some o → t.old ≡ Some q
      → part_at form conversion s.node p (to_cel conversion (suc n) s.node o) ≡ Ok (to_cel conversion n t.node q)
  unfolding goes
  old_part (property k) s t n o q b e before after =
      let r = reached None s.depth (member_path s.path k) (form.steps.property k s.node) (get k s.value) (option_and_then (form.steps.old_member k s.node) s.old) t e in
      member_part conversion n s.node t.node k o q (declared_node k s.node t.node r.node_there) (sym (alike.old_member k s.node o) ∙ sym (ap (option_and_then (form.steps.old_member k s.node)) before) ∙ r.old_there ∙ after)
  old_part (item i) s t n o q b e before after =
      let r = reached None s.depth (item_path s.path i) (form.steps.items s.node) (at i s.value) (option_and_then (form.steps.old_item i s.node s.value) s.old) t e in
      item_part conversion n s.node t.node i o q (sym (alike.items s.node) ∙ r.node_there) (sym (alike.old_item i s.node s.value o) ∙ sym (ap (option_and_then (form.steps.old_item i s.node s.value)) before) ∙ r.old_there ∙ after)
  old_part (additional_property k) s t n o q b e before after =
      let r = reached None s.depth (member_path s.path k) (unless_there (form.steps.property k s.node) (form.steps.additional_property s.node)) (get k s.value) (option_and_then (form.steps.old_member k s.node) s.old) t e in
      member_part conversion n s.node t.node k o q (undeclared_node k s.node t.node r.node_there) (sym (alike.old_member k s.node o) ∙ sym (ap (option_and_then (form.steps.old_member k s.node)) before) ∙ r.old_there ∙ after)
  old_part (branch kind j) s t n o q b e before after = cc

  deeper : (p : Step) (s t : Visit S) → goes form.steps p s ≡ Some t → s.depth + 1 ≡ t.depth
  unfolding goes
  deeper (property k) s t e = (reached None s.depth (member_path s.path k) (form.steps.property k s.node) (get k s.value) (option_and_then (form.steps.old_member k s.node) s.old) t e).deeper
  deeper (item i) s t e = (reached None s.depth (item_path s.path i) (form.steps.items s.node) (at i s.value) (option_and_then (form.steps.old_item i s.node s.value) s.old) t e).deeper
  deeper (additional_property k) s t e =
      (reached None s.depth (member_path s.path k) (unless_there (form.steps.property k s.node) (form.steps.additional_property s.node)) (get k s.value) (option_and_then (form.steps.old_member k s.node) s.old) t e).deeper
  deeper (branch kind j) s t e = (reached s.root s.depth s.path (form.steps.branch kind j s.node) (Some s.value) s.old t e).deeper

  no_old : (p : Step) (s t : Visit S) → goes form.steps p s ≡ Some t → s.old ≡ None → t.old ≡ None
  unfolding goes
  no_old (property k) s t e none =
      sym (reached None s.depth (member_path s.path k) (form.steps.property k s.node) (get k s.value) (option_and_then (form.steps.old_member k s.node) s.old) t e).old_there ∙ ap (option_and_then (form.steps.old_member k s.node)) none
  no_old (item i) s t e none =
      sym (reached None s.depth (item_path s.path i) (form.steps.items s.node) (at i s.value) (option_and_then (form.steps.old_item i s.node s.value) s.old) t e).old_there ∙ ap (option_and_then (form.steps.old_item i s.node s.value)) none
  no_old (additional_property k) s t e none =
      sym (reached None s.depth (member_path s.path k) (unless_there (form.steps.property k s.node) (form.steps.additional_property s.node)) (get k s.value) (option_and_then (form.steps.old_member k s.node) s.old) t e).old_there
      ∙ ap (option_and_then (form.steps.old_member k s.node)) none
  no_old (branch kind j) s t e none = sym (reached s.root s.depth s.path (form.steps.branch kind j s.node) (Some s.value) s.old t e).old_there ∙ none

  -- ---- all steps

  levels_at : (s : Visit S) (n : ℕ) (v : Data) → s.depth + n ≡ 65 → bound_at form s v ≡ to_cel conversion n s.node v
  levels_at s n v d = let levels : 65 - s.depth ≡ n = omega (arith, d) in alike.bound s.depth s.node v ∙ ap (λ m. to_cel conversion m s.node v) levels

  neither : (a b : Bool) → (a || b) ≡ false → (a ≡ false) × (b ≡ false)
  neither true b e = cc
  neither false b e = (refl, e)

  pub values_along : (ps : List Step) (s t : Visit S) (n : ℕ) → list_any is_branch ps ≡ false → s.depth + n ≡ 65 → length ps ≤ n → leads (goes form.steps) ps s ≡ Some t
      → part_along form conversion ps s (bound_at form s s.value) ≡ Some (bound_at form t t.value)
  unfolding leads part_along
  values_along [] s t n b d l e = let same : s ≡ t = cc in ap (λ u. Some (bound_at form u u.value)) same
  values_along (p ∷ ps) s t zero b d l e = absurd (omega (arith, l))
  values_along (p ∷ ps) s t (suc n) b d l e = by (goes form.steps p s) refl e (λ u bs below led. values_along ps u t n bs below (omega (arith, l)) led)
    where
      by : (o : Option (Visit S)) → goes form.steps p s ≡ o → option_and_then (leads (goes form.steps) ps) o ≡ Some t
          → ((u : Visit S) → list_any is_branch ps ≡ false → u.depth + n ≡ 65 → leads (goes form.steps) ps u ≡ Some t → part_along form conversion ps u (bound_at form u u.value) ≡ Some (bound_at form t t.value))
          → option_and_then (λ u. option_and_then (part_along form conversion ps u) (result_ok (part_at form conversion s.node p (bound_at form s s.value)))) o ≡ Some (bound_at form t t.value)
      by None g e rec = cc
      by (Some u) g e rec =
          let bs = neither (is_branch p) (list_any is_branch ps) b in
          let step = deeper p s u g in
          let below : u.depth + n ≡ 65 = omega (arith, d, step) in
          ap (λ v. option_and_then (part_along form conversion ps u) (result_ok (part_at form conversion s.node p v))) (levels_at s (suc n) s.value d)
          ∙ ap (λ r. option_and_then (part_along form conversion ps u) (result_ok r)) (value_part p s u n bs.0 g)
          ∙ ap (part_along form conversion ps u) (sym (levels_at u n u.value below))
          ∙ rec u bs.1 below e

  none_along : (ps : List Step) (s t : Visit S) → leads (goes form.steps) ps s ≡ Some t → s.old ≡ None → t.old ≡ None
  unfolding leads
  none_along [] s t e none = let same : s ≡ t = cc in ap (λ u. u.old) (sym same) ∙ none
  none_along (p ∷ ps) s t e none = by (goes form.steps p s) refl e (λ u led gone. none_along ps u t led gone)
    where
      by : (o : Option (Visit S)) → goes form.steps p s ≡ o → option_and_then (leads (goes form.steps) ps) o ≡ Some t
          → ((u : Visit S) → leads (goes form.steps) ps u ≡ Some t → u.old ≡ None → t.old ≡ None) → t.old ≡ None
      by None g e rec = cc
      by (Some u) g e rec = rec u e (no_old p s u g none)

  pub olds_along : (ps : List Step) (s t : Visit S) (n : ℕ) (o q : Data) → list_any is_branch ps ≡ false → s.depth + n ≡ 65 → length ps ≤ n → leads (goes form.steps) ps s ≡ Some t
      → s.old ≡ Some o → t.old ≡ Some q → part_along form conversion ps s (bound_at form s o) ≡ Some (bound_at form t q)
  unfolding leads part_along
  olds_along [] s t n o q b d l e before after =
      let same : s ≡ t = cc in
      let one : o ≡ q = cc in
      (λ i. Some (bound_at form (same i) (one i)))
  olds_along (p ∷ ps) s t zero o q b d l e before after = absurd (omega (arith, l))
  olds_along (p ∷ ps) s t (suc n) o q b d l e before after =
      by (goes form.steps p s) refl e (λ u w bs below led there. olds_along ps u t n w q bs below (omega (arith, l)) led there after)
    where
      -- if the step leads on in the old value, as it must
      on : (u : Visit S) → goes form.steps p s ≡ Some u → leads (goes form.steps) ps u ≡ Some t
          → ((w : Data) → list_any is_branch ps ≡ false → u.depth + n ≡ 65 → u.old ≡ Some w → part_along form conversion ps u (bound_at form u w) ≡ Some (bound_at form t q))
          → (m : Option Data) → u.old ≡ m → option_and_then (part_along form conversion ps u) (result_ok (part_at form conversion s.node p (bound_at form s o))) ≡ Some (bound_at form t q)
      on u g e rec None none = let gone = none_along ps u t e none in cc
      on u g e rec (Some w) there =
          let bs = neither (is_branch p) (list_any is_branch ps) b in
          let step = deeper p s u g in
          let below : u.depth + n ≡ 65 = omega (arith, d, step) in
          ap (λ v. option_and_then (part_along form conversion ps u) (result_ok (part_at form conversion s.node p v))) (levels_at s (suc n) o d)
          ∙ ap (λ r. option_and_then (part_along form conversion ps u) (result_ok r)) (old_part p s u n o w bs.0 g before there)
          ∙ ap (part_along form conversion ps u) (sym (levels_at u n w below))
          ∙ rec w bs.1 below there

      by : (g : Option (Visit S)) → goes form.steps p s ≡ g → option_and_then (leads (goes form.steps) ps) g ≡ Some t
          → ((u : Visit S) (w : Data) → list_any is_branch ps ≡ false → u.depth + n ≡ 65 → leads (goes form.steps) ps u ≡ Some t → u.old ≡ Some w
          → part_along form conversion ps u (bound_at form u w) ≡ Some (bound_at form t q))
          → option_and_then (λ u. option_and_then (part_along form conversion ps u) (result_ok (part_at form conversion s.node p (bound_at form s o)))) g ≡ Some (bound_at form t q)
      by None g e rec = cc
      by (Some u) g e rec = on u g e (λ w bs below there. rec u w bs below e there) u.old refl

  -- within the levels that apply
  pub values_within : (s t : Visit S) (ps : List Step) → s.depth + length ps ≤ 65 → list_any is_branch ps ≡ false → leads (goes form.steps) ps s ≡ Some t
      → part_along form conversion ps s (bound_at form s s.value) ≡ Some (bound_at form t t.value)
  values_within s t ps within b e =
      let there : s.depth + (65 - s.depth) ≡ 65 = omega (arith, within) in
      let short : length ps ≤ 65 - s.depth = omega (arith, within) in
      values_along ps s t (65 - s.depth) b there short e

  pub olds_within : (s t : Visit S) (ps : List Step) (o q : Data) → s.depth + length ps ≤ 65 → list_any is_branch ps ≡ false → leads (goes form.steps) ps s ≡ Some t
      → s.old ≡ Some o → t.old ≡ Some q → part_along form conversion ps s (bound_at form s o) ≡ Some (bound_at form t q)
  olds_within s t ps o q within b e before after =
      let there : s.depth + (65 - s.depth) ≡ 65 = omega (arith, within) in
      let short : length ps ≤ 65 - s.depth = omega (arith, within) in
      olds_along ps s t (65 - s.depth) o q b there short e before after
