-- Added rules leave all other errors as they were.
use Rattle.cel.specs.Book.{Book}
use Rattle.cel.specs.Bindings.{Bindings}
use Rattle.kube_cel.proofs.AddedKept.{same_at}
use Rattle.kube_cel.proofs.AddedParts.{added, at_key}
use Rattle.kube_cel.proofs.Marks.{Marked, marked_steps, as_is, as_was, bound_alike, filled_alike, leads_is, leads_left, leads_was, places_are, places_were}
use Rattle.kube_cel.specs.Added.{NodeStep, to_property, to_items, to_additional, to_branch, all_items, left_behind, with_items, with_rules}
use Rattle.kube_cel.specs.AddedVerdicts.{AddsAlone, added_at, added_rules, added_verdicts, found_at, if_there}
use Rattle.kube_cel.specs.Raw.{raw_accessors}
use Rattle.kube_cel.specs.Starts.{with_schema_defaults, defaulted_start}
use Rattle.kube_cel_walk.specs.Errors.{ErrorData}
use Rattle.kube_cel_walk.specs.RuleErrors.{too_deep}
use Rattle.kube_schema_rules.proofs.Candidates.{visit_places}
use Rattle.kube_schema_rules.proofs.Found.{flat_map_same}
use Rattle.kube_schema_rules.proofs.Raw.{raw_counts_all}
use Rattle.kube_schema.specs.BranchKind.TheVariants.{AllOf, OneOf, AnyOf}
use Rattle.kube_schema.specs.RulesRaw.{raw_steps}
use Rattle.kube_schema.specs.Visit.{Root, Visit, candidates, goes, root_visit}
use Rattle.kube_schema.specs.Step.{Step}
use Rattle.kube_schema.specs.Walk.{answers, if_some, leads, places}
use Rattle.kube_cel.specs.Visits.{with_node_of}
use Rattle.kube_cel_walk.specs.Verdicts.{list_of_option, optional_old_at, verdict, with_old, with_root}
use Rattle.kube_cel_walk.specs.Answers.{answer, bound_at, place_bindings, rule_verdicts, verdicts}
use Rattle.kube_schema.specs.Conversion.{levels}
use Rattle.kube_schema.specs.Compilation.{Compiled, Malformed, compiled_rule, compiled_rules, compiled_rules_by}
use Rattle.kube_schema.specs.Rules.{rule_items}
use Rattle.serde_json.specs.Data.{Data, null, boolean, number, string, array, object, Items, no_items, item}
use Rattle.serde_json.specs.Find.{as_array, get}
use Rattle.std.proofs.Common.{◌≡◌, ◌==◌, List, [], ◌∷◌, ◌++◌, Bool, true, false, if◌then◌else◌, Option, Some, None, option_map, option_and_then, unwrap_or, is_some, codes, refl, sym, ap, subst, ◌∙◌, append-nil, Result, Ok, Err}
use Rattle.std.proofs.lemmas.List.Concat.{flat_map-append}
use Rattle.std.specs.List.{flat_map}

-- ---- rules

all_compiled : (ds more : Items) → compiled_rules (all_items ds more) ≡ compiled_rules ds ++ compiled_rules more
unfolding compiled_rules_by
all_compiled no_items more = refl
all_compiled (item d ds) more = ap (λ rs. compiled_rule d ∷ rs) (all_compiled ds more)

rules_behind : (more : Items) (d : Data) → compiled_rules (rule_items (with_rules more [] d)) ≡ compiled_rules (rule_items d) ++ added_rules more d
unfolding rule_items compiled_rules_by
rules_behind more d = ap (λ o. compiled_rules (unwrap_or (option_and_then as_array o) no_items)) (at_key more (codes "x-kubernetes-validations") [] d) ∙ by (get (codes "x-kubernetes-validations") d)
  where
    by : (o : Option Data) → compiled_rules (unwrap_or (option_and_then as_array (option_map (with_items more) o)) no_items)
        ≡ compiled_rules (unwrap_or (option_and_then as_array o) no_items) ++ (if is_some (option_and_then as_array o) then compiled_rules more else [])
    by None = refl
    by (Some null) = refl
    by (Some (boolean b)) = refl
    by (Some (number n)) = refl
    by (Some (string s)) = refl
    by (Some (array ds)) = all_compiled ds more
    by (Some (object ms)) = refl

rules_stay : (more : Items) (t : NodeStep) (ts : List NodeStep) (d : Data) → rule_items (with_rules more (t ∷ ts) d) ≡ rule_items d
unfolding rule_items
rules_stay more t ts d = ap (λ o. unwrap_or (option_and_then as_array o) no_items) (by t)
  where
    by : (t : NodeStep) → get (codes "x-kubernetes-validations") (with_rules more (t ∷ ts) d) ≡ get (codes "x-kubernetes-validations") d
    by (to_property k) = same_at more (codes "x-kubernetes-validations") (to_property k ∷ ts) d refl
    by to_items = same_at more (codes "x-kubernetes-validations") (to_items ∷ ts) d refl
    by to_additional = same_at more (codes "x-kubernetes-validations") (to_additional ∷ ts) d refl
    by (to_branch AllOf i) = same_at more (codes "x-kubernetes-validations") (to_branch AllOf i ∷ ts) d refl
    by (to_branch OneOf i) = same_at more (codes "x-kubernetes-validations") (to_branch OneOf i ∷ ts) d refl
    by (to_branch AnyOf i) = same_at more (codes "x-kubernetes-validations") (to_branch AnyOf i ∷ ts) d refl

-- ---- one place

module _ (b : Book) (more : Items) where
  value_alike : (r : Option (List NodeStep)) (s : Visit Data) (value : Data) → bound_at raw_accessors (with_node_of (added more r) s) value ≡ bound_at raw_accessors s value
  unfolding raw_accessors
  value_alike r s value = bound_alike more (levels s.depth) r s.node value

  old_alike : (r : Option (List NodeStep)) (s : Visit Data) (old : Option Data) → option_map (bound_at raw_accessors (with_node_of (added more r) s)) old ≡ option_map (bound_at raw_accessors s) old
  old_alike r s None = refl
  old_alike r s (Some old) = ap Some (value_alike r s old)

  bindings_alike : (r : Option (List NodeStep)) (s : Visit Data) → place_bindings raw_accessors (with_node_of (added more r) s) ≡ place_bindings raw_accessors s
  unfolding place_bindings
  bindings_alike r s = λ i. with_root s.root (with_old (old_alike r s s.old i) ((codes "self", value_alike r s s.value i) ∷ []))

  -- the errors of a rule at a visit
  reported : Visit Data → Result Compiled Malformed → List ErrorData
  reported s q = list_of_option (verdict raw_accessors b (place_bindings raw_accessors s) s q)

  -- a rule has the same verdict whatever the node is, under the same bindings
  verdict_moved : (r : Option (List NodeStep)) (s : Visit Data) (e : Bindings) (q : Result Compiled Malformed) → verdict raw_accessors b e (with_node_of (added more r) s) q ≡ verdict raw_accessors b e s q
  unfolding verdict raw_accessors optional_old_at
  verdict_moved r s e (Err m) = refl
  verdict_moved r s e (Ok c) = refl

  -- the bindings are the same, whatever the rules
  same_reported : (r : Option (List NodeStep)) (s : Visit Data)
      → rule_verdicts raw_accessors b (place_bindings raw_accessors (with_node_of (added more r) s)) (with_node_of (added more r) s) ≡ flat_map (reported s) (compiled_rules (rule_items (added more r s.node)))
  unfolding rule_verdicts raw_accessors reported
  same_reported r s =
      let t = with_node_of (added more r) s in
      let e = place_bindings raw_accessors t in
      flat_map_same (λ q. list_of_option (verdict raw_accessors b e t q)) (λ q. list_of_option (verdict raw_accessors b e s q)) (λ q. ap list_of_option (verdict_moved r s e q)) (compiled_rules (rule_items (added more r s.node)))
      ∙ ap (λ e. flat_map (λ q. list_of_option (verdict raw_accessors b e s q)) (compiled_rules (rule_items (added more r s.node)))) (bindings_alike r s)

  -- the rules of a node, followed by the added ones if it is the node that gets them
  all_reported : (r : Option (List NodeStep)) (s : Visit Data)
      → flat_map (reported s) (compiled_rules (rule_items (added more r s.node))) ≡ flat_map (reported s) (compiled_rules (rule_items s.node)) ++ if_there r (flat_map (reported s) (added_rules more s.node))
  all_reported None s = sym (append-nil (flat_map (reported s) (compiled_rules (rule_items s.node))))
  all_reported (Some []) s = ap (flat_map (reported s)) (rules_behind more s.node) ∙ flat_map-append (reported s) (compiled_rules (rule_items s.node)) (added_rules more s.node)
  all_reported (Some (t ∷ ts)) s = ap (λ ds. flat_map (reported s) (compiled_rules ds)) (rules_stay more t ts s.node) ∙ sym (append-nil (flat_map (reported s) (compiled_rules (rule_items s.node))))

  rules_reported : (r : Option (List NodeStep)) (s : Visit Data)
      → rule_verdicts raw_accessors b (place_bindings raw_accessors (with_node_of (added more r) s)) (with_node_of (added more r) s)
      ≡ rule_verdicts raw_accessors b (place_bindings raw_accessors s) s ++ if_there r (flat_map (reported s) (added_rules more s.node))
  rules_reported r s = same_reported r s ∙ all_reported r s ∙ ap (λ es. es ++ if_there r (flat_map (reported s) (added_rules more s.node))) (sym (same_reported None s))

  nothing_there : {E : Type 0} (r : Option (List NodeStep)) → if_there {E = E} r [] ≡ []
  nothing_there None = refl
  nothing_there (Some []) = refl
  nothing_there (Some (t ∷ ts)) = refl

  unless_deep : (c : Bool) (r : Option (List NodeStep)) (deep after before here : List ErrorData) → after ≡ before ++ if_there r here
      → (if c then deep else after) ≡ (if c then deep else before) ++ if_there r (if c then [] else here)
  unless_deep true r deep after before here e = sym (append-nil deep) ∙ ap (λ es. deep ++ es) (sym (nothing_there r))
  unless_deep false r deep after before here e = e

  verdicts_added : (r : Option (List NodeStep)) (s : Visit Data) → verdicts raw_accessors b (with_node_of (added more r) s) ≡ verdicts raw_accessors b s ++ if_there r (added_verdicts b more s)
  unfolding verdicts added_verdicts reported raw_accessors
  verdicts_added r s =
      unless_deep (s.depth == 65) r (too_deep s.path ∷ []) _ (rule_verdicts raw_accessors b (place_bindings raw_accessors s) s) (flat_map (reported s) (added_rules more s.node)) (rules_reported r s)

  reached_added : (o : Option (Visit Marked)) (r : Option (List NodeStep)) → ((u : Visit Marked) → o ≡ Some u → u.node.1 ≡ r)
      → if_some (verdicts raw_accessors b) (option_map (with_node_of (as_is more)) o) ≡ if_some (verdicts raw_accessors b) (option_map (with_node_of as_was) o) ++ if_there r (if_some (added_verdicts b more) (option_map (with_node_of as_was) o))
  reached_added None r e = sym (nothing_there r)
  reached_added (Some u) r e = verdicts_added u.node.1 (with_node_of as_was u) ∙ ap (λ r. verdicts raw_accessors b (with_node_of as_was u) ++ if_there r (added_verdicts b more (with_node_of as_was u))) (e u refl)

  -- ---- all places, for a walk that begins at a marked node

  place_added : (node : List NodeStep) (m : Visit Marked) → m.node.1 ≡ Some node → (p : List Step)
      → if_some (verdicts raw_accessors b) (leads (goes raw_steps) p (with_node_of (as_is more) m)) ≡ found_at b (with_node_of as_was m) p ++ added_at b more node (with_node_of as_was m) p
  unfolding found_at added_at
  place_added node m starts p =
      ap (if_some (verdicts raw_accessors b)) (sym (leads_is more p m))
      ∙ reached_added (leads (goes marked_steps) p m) (left_behind p (Some node)) (λ u e. leads_left p m u e ∙ ap (left_behind p) starts)
      ∙ ap (λ o. if_some (verdicts raw_accessors b) o ++ if_there (left_behind p (Some node)) (if_some (added_verdicts b more) o)) (leads_was p m)

  answer_added : (node : List NodeStep) (m : Visit Marked) → m.node.1 ≡ Some node
      → AddsAlone b more node (with_node_of as_was m) (answer raw_accessors b 65 (with_node_of as_was m)) (answer raw_accessors b 65 (with_node_of (as_is more) m))
  unfolding answer answers raw_accessors found_at
  answer_added node m starts = record {
    all_places = places (goes raw_steps) (candidates raw_steps) 65 (with_node_of as_was m);
    are_all = visit_places raw_steps raw_counts_all 65 (with_node_of as_was m);
    before_is = refl;
    after_is = ap (flat_map (λ p. if_some (verdicts raw_accessors b) (leads (goes raw_steps) p (with_node_of (as_is more) m)))) (sym (places_are more 65 m) ∙ places_were 65 m)
        ∙ flat_map_same _ (λ p. found_at b (with_node_of as_was m) p ++ added_at b more node (with_node_of as_was m) p) (place_added node m starts) (places (goes raw_steps) (candidates raw_steps) 65 (with_node_of as_was m));
  }

-- ---- from the root on

old_defaults : (more : Items) (node : List NodeStep) (schema : Data) (old : Option Data) → option_map (with_schema_defaults (with_rules more node schema)) old ≡ option_map (with_schema_defaults schema) old
old_defaults more node schema None = refl
old_defaults more node schema (Some old) = ap Some (filled_alike more 65 (Some node) schema old)

pub adds_alone : (b : Book) (schema value : Data) (old : Option Data) (root : Option Root) (more : Items) (node : List NodeStep)
    → AddsAlone b more node (defaulted_start schema value old root) (answer raw_accessors b 65 (defaulted_start schema value old root)) (answer raw_accessors b 65 (defaulted_start (with_rules more node schema) value old root))
adds_alone b schema value old root more node =
    let begins : defaulted_start (with_rules more node schema) value old root ≡ root_visit (with_rules more node schema) (with_schema_defaults schema value) (option_map (with_schema_defaults schema) old) root =
    λ i. root_visit (with_rules more node schema) (filled_alike more 65 (Some node) schema value i) (old_defaults more node schema old i) root in
    subst (λ s. AddsAlone b more node (defaulted_start schema value old root) (answer raw_accessors b 65 (defaulted_start schema value old root)) (answer raw_accessors b 65 s)) (sym begins)
    (answer_added b more node (root_visit (schema, Some node) (with_schema_defaults schema value) (option_map (with_schema_defaults schema) old) root) refl)
