-- The nodes of a schema, each with the steps that remain from it to the node that gets more
-- rules: what a walk reads of the schema as it was, and of the schema with those rules.
use Rattle.std.proofs.Common.{◌≡◌, ◌+◌, ℕ, zero, suc, List, [], ◌∷◌, Option, Some, None, option_map, option_and_then, unwrap_or, false, if◌then◌else◌, refl, sym, ap, ◌∙◌}
use Rattle.std.specs.Option.{option_map_or}
use Rattle.serde_json.specs.Data.{Data, Items}
use Rattle.serde_json.specs.Find.{as_bool, as_str, at, get}
use Rattle.kube_schema.specs.RulesRaw as seen
use Rattle.kube_schema.specs.RulesRaw.{raw_steps}
use Rattle.kube_schema.specs.StepAccessors.{StepAccessors}
use Rattle.kube_schema.specs.Visit.{Root, Visit, visit, candidates, goes, further, unless_there, member_path, item_path}
use Rattle.kube_schema.specs.Step as step
use Rattle.kube_schema.specs.Walk.{leads, places}
use Rattle.kube_schema.specs.Conversion as bind
use Rattle.kube_schema.specs.Conversion.{to_cel}
use Rattle.kube_schema.specs.SchemaFormat.TheVariants as formats
use Rattle.kube_schema.specs.Formats.{format_named}
use Rattle.kube_schema.specs.Node as asked
use Rattle.kube_schema.specs.Defaults.{defaulted_value}
use Rattle.kube_schema.specs.DefaultsAccessors as fill
use Rattle.kube_cel.specs.Added.{NodeStep, left_after, left_behind}
use Rattle.kube_cel.specs.Visits.{with_node_of}
use Rattle.kube_cel.proofs.PlacesAlike as walk
use Rattle.kube_schema.proofs.SameDefaults as filling
use Rattle.kube_schema.proofs.SameBinding as binding
use Rattle.kube_cel.proofs.AddedKept.{counts_added, default_stays, embedded_stays, format_stays, int_or_string_stays, maps_added, names_added, undeclared_added}
use Rattle.kube_cel.proofs.AddedParts.{added, additional_added, branch_added, items_added, property_added}

-- a node and the steps that remain; none if they lead elsewhere
abbrev pub Marked : Type 0
Marked = Data × Option (List NodeStep)

abbrev pub behind : step.Step → Marked → Option (List NodeStep)
behind p m = option_and_then (left_after p) m.1

abbrev pub marked : Option (List NodeStep) → Data → Marked
marked r d = (d, r)

abbrev pub as_was : Marked → Data
as_was m = m.0

pub was : (r : Option (List NodeStep)) (o : Option Data) → option_map as_was (option_map (marked r) o) ≡ o
was r None = refl
was r (Some d) = refl

-- ---- what walks and defaults read of them

unfoldable pub marked_steps : StepAccessors Marked
marked_steps = record {
  property = λ k m. option_map (marked (behind (step.property k) m)) (raw_steps.property k m.0);
  items = λ m. option_map (marked (behind (step.item 0) m)) (raw_steps.items m.0);
  additional_property = λ m. option_map (marked (behind (step.additional_property []) m)) (raw_steps.additional_property m.0);
  branch_count = λ kind m. raw_steps.branch_count kind m.0;
  branch = λ kind i m. option_map (marked (behind (step.branch kind i) m)) (raw_steps.branch kind i m.0);
  old_member = λ k m old. raw_steps.old_member k m.0 old;
  old_item = λ i m value old. raw_steps.old_item i m.0 value old;
}

unfoldable pub marked_fill : fill.DefaultsAccessors Marked
marked_fill = record {
  keys = λ m. fill.raw.keys m.0;
  property = λ k m. option_map (marked (behind (step.property k) m)) (fill.raw.property k m.0);
  items = λ m. option_map (marked (behind (step.item 0) m)) (fill.raw.items m.0);
  additional = λ m. option_map (marked (behind (step.additional_property []) m)) (fill.raw.additional m.0);
  default = λ m. fill.raw.default m.0;
}

unfoldable pub marked_bind : bind.ConversionAccessors Marked
marked_bind = record {
  property = λ k m. option_map (marked (behind (step.property k) m)) (bind.raw.property k m.0);
  additional = λ m. option_map (marked (behind (step.additional_property []) m)) (bind.raw.additional m.0);
  items = λ m. option_map (marked (behind (step.item 0) m)) (bind.raw.items m.0);
  is_map = λ m. bind.raw.is_map m.0;
  is_embedded = λ m. bind.raw.is_embedded m.0;
  format = λ m. bind.raw.format m.0;
}

-- ---- the schema as it was

walk_was : (m : Marked) → walk.Alike marked_steps raw_steps as_was m m.0
unfolding marked_steps
walk_was m = record {
  property = λ k. was (behind (step.property k) m) (raw_steps.property k m.0);
  items = was (behind (step.item 0) m) (raw_steps.items m.0);
  additional_property = was (behind (step.additional_property []) m) (raw_steps.additional_property m.0);
  branch_count = λ kind. refl;
  branch = λ kind i. was (behind (step.branch kind i) m) (raw_steps.branch kind i m.0);
  old_member = λ k old. refl;
  old_item = λ i value old. refl;
}

fill_was : (m : Marked) → filling.Alike marked_fill fill.raw as_was m m.0
unfolding marked_fill
fill_was m = record {
  keys = refl;
  property = λ k. was (behind (step.property k) m) (fill.raw.property k m.0);
  items = was (behind (step.item 0) m) (fill.raw.items m.0);
  additional = was (behind (step.additional_property []) m) (fill.raw.additional m.0);
  default = λ p. refl;
}

filled_was : (n : ℕ) (m : Marked) (d : Data) → defaulted_value marked_fill n m d ≡ defaulted_value fill.raw n m.0 d
unfolding defaulted_value
filled_was zero m d = refl
filled_was (suc n) m d = filling.filled_by_same marked_fill fill.raw as_was (defaulted_value marked_fill n) (defaulted_value fill.raw n) (filled_was n) m m.0 (fill_was m) d

bind_was : (m : Marked) → binding.Alike marked_bind bind.raw as_was m m.0
unfolding marked_bind
bind_was m = record {
  property = λ k. was (behind (step.property k) m) (bind.raw.property k m.0);
  additional = was (behind (step.additional_property []) m) (bind.raw.additional m.0);
  items = was (behind (step.item 0) m) (bind.raw.items m.0);
  is_map = refl;
  is_embedded = refl;
  format = refl;
}

bound_was : (n : ℕ) (m : Marked) (d : Data) → to_cel marked_bind n m d ≡ to_cel bind.raw n m.0 d
unfolding to_cel
bound_was zero m d = refl
bound_was (suc n) m d = binding.bound_by_same marked_bind bind.raw as_was (to_cel marked_bind n) (to_cel bind.raw n) (bound_was n) m m.0 (bind_was m) d

pub places_were : (n : ℕ) (s : Visit Marked) → places (goes marked_steps) (candidates marked_steps) n s ≡ places (goes raw_steps) (candidates raw_steps) n (with_node_of as_was s)
places_were = walk.places_same marked_steps raw_steps (λ n. as_was) (λ n. walk_was)

pub leads_was : (ps : List step.Step) (s : Visit Marked) → option_map (with_node_of as_was) (leads (goes marked_steps) ps s) ≡ leads (goes raw_steps) ps (with_node_of as_was s)
leads_was ps s = walk.leads_same marked_steps raw_steps (λ n. as_was) (λ n. walk_was) 0 ps s

-- ---- the schema with more rules

module _ (more : Items) where
  abbrev pub as_is : Marked → Data
  as_is m = added more m.1 m.0

  is : (r : Option (List NodeStep)) (o : Option Data) → option_map as_is (option_map (marked r) o) ≡ option_map (added more r) o
  is r None = refl
  is r (Some d) = refl

  walk_is : (m : Marked) → walk.Alike marked_steps raw_steps as_is m (as_is m)
  unfolding marked_steps raw_steps seen.declared_property
  walk_is m = record {
    property = λ k. is (behind (step.property k) m) (raw_steps.property k m.0) ∙ sym (property_added more k m.1 m.0);
    items = is (behind (step.item 0) m) (raw_steps.items m.0) ∙ sym (items_added more 0 m.1 m.0);
    additional_property = is (behind (step.additional_property []) m) (raw_steps.additional_property m.0) ∙ sym (undeclared_added more [] m.1 m.0);
    branch_count = λ kind. sym (counts_added more kind m.1 m.0);
    branch = λ kind i. is (behind (step.branch kind i) m) (raw_steps.branch kind i m.0) ∙ sym (branch_added more kind i m.1 m.0);
    old_member = λ k old. refl;
    old_item = λ i value old. refl;
  }

  additional_is : (m : Marked) → option_map as_is (marked_fill.additional m) ≡ fill.raw.additional (as_is m)
  unfolding marked_fill fill.raw fill.additional fill.preserves seen.undeclared_property
  additional_is m = is (behind (step.additional_property []) m) (fill.raw.additional m.0) ∙ sym (undeclared_added more [] m.1 m.0)

  fill_is : (m : Marked) → filling.Alike marked_fill fill.raw as_is m (as_is m)
  unfolding marked_fill fill.raw fill.property fill.declared_properties fill.default_in
  fill_is m = record {
    keys = sym (names_added more m.1 m.0);
    property = λ k. is (behind (step.property k) m) (fill.raw.property k m.0) ∙ sym (property_added more k m.1 m.0);
    items = is (behind (step.item 0) m) (fill.raw.items m.0) ∙ sym (items_added more 0 m.1 m.0);
    additional = additional_is m;
    default = λ p. sym (default_stays more p.1 p.0);
  }

  filled_is : (n : ℕ) (m : Marked) (d : Data) → defaulted_value marked_fill n m d ≡ defaulted_value fill.raw n (as_is m) d
  unfolding defaulted_value
  filled_is zero m d = refl
  filled_is (suc n) m d = filling.filled_by_same marked_fill fill.raw as_is (defaulted_value marked_fill n) (defaulted_value fill.raw n) (filled_is n) m (as_is m) (fill_is m) d

  -- defaults don't depend on rules
  pub filled_alike : (n : ℕ) (r : Option (List NodeStep)) (s d : Data) → defaulted_value fill.raw n (added more r s) d ≡ defaulted_value fill.raw n s d
  filled_alike n r s d = sym (filled_is n (s, r) d) ∙ filled_was n (s, r) d

  format_is : (m : Marked) → bind.raw.format m.0 ≡ bind.raw.format (as_is m)
  unfolding bind.raw asked.format_of
  format_is m = λ i. if unwrap_or (option_and_then as_bool (sym (int_or_string_stays more m.1 m.0) i)) false then formats.IntOrString
      else option_map_or format_named (option_and_then as_str (sym (format_stays more m.1 m.0) i)) formats.None

  bind_is : (m : Marked) → binding.Alike marked_bind bind.raw as_is m (as_is m)
  unfolding marked_bind bind.raw asked.property_of asked.additional_of asked.items_of asked.is_map asked.is_embedded
  bind_is m = record {
    property = λ k. is (behind (step.property k) m) (bind.raw.property k m.0) ∙ sym (property_added more k m.1 m.0);
    additional = is (behind (step.additional_property []) m) (bind.raw.additional m.0) ∙ sym (additional_added more [] m.1 m.0);
    items = is (behind (step.item 0) m) (bind.raw.items m.0) ∙ sym (items_added more 0 m.1 m.0);
    is_map = sym (maps_added more m.1 m.0);
    is_embedded = ap (λ o. unwrap_or (option_and_then as_bool o) false) (sym (embedded_stays more m.1 m.0));
    format = format_is m;
  }

  bound_is : (n : ℕ) (m : Marked) (d : Data) → to_cel marked_bind n m d ≡ to_cel bind.raw n (as_is m) d
  unfolding to_cel
  bound_is zero m d = refl
  bound_is (suc n) m d = binding.bound_by_same marked_bind bind.raw as_is (to_cel marked_bind n) (to_cel bind.raw n) (bound_is n) m (as_is m) (bind_is m) d

  -- neither does binding
  pub bound_alike : (n : ℕ) (r : Option (List NodeStep)) (s d : Data) → to_cel bind.raw n (added more r s) d ≡ to_cel bind.raw n s d
  bound_alike n r s d = sym (bound_is n (s, r) d) ∙ bound_was n (s, r) d

  pub places_are : (n : ℕ) (s : Visit Marked) → places (goes marked_steps) (candidates marked_steps) n s ≡ places (goes raw_steps) (candidates raw_steps) n (with_node_of as_is s)
  places_are = walk.places_same marked_steps raw_steps (λ n. as_is) (λ n. walk_is)

  pub leads_is : (ps : List step.Step) (s : Visit Marked) → option_map (with_node_of as_is) (leads (goes marked_steps) ps s) ≡ leads (goes raw_steps) ps (with_node_of as_is s)
  leads_is ps s = walk.leads_same marked_steps raw_steps (λ n. as_is) (λ n. walk_is) 0 ps s

-- ---- which steps remain at a place

one_item : (i j : ℕ) (r : Option (List NodeStep)) → option_and_then (left_after (step.item i)) r ≡ option_and_then (left_after (step.item j)) r
one_item i j None = refl
one_item i j (Some []) = refl
one_item i j (Some (t ∷ ts)) = refl

one_additional_property : (k l : List ℕ) (r : Option (List NodeStep)) → option_and_then (left_after (step.additional_property k)) r ≡ option_and_then (left_after (step.additional_property l)) r
one_additional_property k l None = refl
one_additional_property k l (Some []) = refl
one_additional_property k l (Some (t ∷ ts)) = refl

further_left : (root : Option Root) (d : ℕ) (path : List ℕ) (r : Option (List NodeStep)) (o value old : Option Data) (u : Visit Marked) → further root d path (option_map (marked r) o) value old ≡ Some u → u.node.1 ≡ r
further_left root d path r None value old u e = absurd cc
further_left root d path r (Some n) None old u e = absurd cc
further_left root d path r (Some n) (Some v) old u e = let same : visit (n, r) v old root path (d + 1) ≡ u = cc in ap (λ s. s.node.1) (sym same)

additional_left : (d : ℕ) (path : List ℕ) (q r : Option (List NodeStep)) (a o value old : Option Data) (u : Visit Marked)
    → further None d path (unless_there (option_map (marked q) a) (option_map (marked r) o)) value old ≡ Some u → u.node.1 ≡ r
additional_left d path q r (Some n) o value old u e = absurd cc
additional_left d path q r None o value old u e = further_left None d path r o value old u e

goes_left : (p : step.Step) (s u : Visit Marked) → goes marked_steps p s ≡ Some u → u.node.1 ≡ behind p s.node
unfolding goes marked_steps
goes_left (step.property k) s u e = further_left None s.depth (member_path s.path k) (behind (step.property k) s.node) (raw_steps.property k s.node.0) (get k s.value) (option_and_then (raw_steps.old_member k s.node.0) s.old) u e
goes_left (step.item i) s u e =
    further_left None s.depth (item_path s.path i) (behind (step.item 0) s.node) (raw_steps.items s.node.0) (at i s.value) (option_and_then (raw_steps.old_item i s.node.0 s.value) s.old) u e ∙ one_item 0 i s.node.1
goes_left (step.additional_property k) s u e =
    additional_left s.depth (member_path s.path k) (behind (step.property k) s.node) (behind (step.additional_property []) s.node) (raw_steps.property k s.node.0) (raw_steps.additional_property s.node.0) (get k s.value) (option_and_then (raw_steps.old_member k s.node.0) s.old) u e
    ∙ one_additional_property [] k s.node.1
goes_left (step.branch kind i) s u e = further_left s.root s.depth s.path (behind (step.branch kind i) s.node) (raw_steps.branch kind i s.node.0) (Some s.value) s.old u e

pub leads_left : (ps : List step.Step) (s u : Visit Marked) → leads (goes marked_steps) ps s ≡ Some u → u.node.1 ≡ left_behind ps s.node.1
unfolding leads
leads_left [] s u e = let same : s ≡ u = cc in ap (λ s. s.node.1) (sym same)
leads_left (p ∷ ps) s u e = by (λ t h. leads_left ps t u h) (goes marked_steps p s) refl e
  where
    by : ((t : Visit Marked) → leads (goes marked_steps) ps t ≡ Some u → u.node.1 ≡ left_behind ps t.node.1)
        → (o : Option (Visit Marked)) → goes marked_steps p s ≡ o → option_and_then (leads (goes marked_steps) ps) o ≡ Some u → u.node.1 ≡ left_behind ps (behind p s.node)
    by rec None g e = absurd cc
    by rec (Some t) g e = rec t e ∙ ap (left_behind ps) (goes_left p s t g)
