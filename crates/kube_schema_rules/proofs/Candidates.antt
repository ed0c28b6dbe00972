-- The candidates are sorted, and contain all allowed steps.
use Rattle.kube_schema_rules.proofs.ByKind.{last_kind, kind_before, properties_in_order, items_in_order, extras_in_order, branches_in_order}
use Rattle.kube_schema_rules.proofs.Ordered.{IsIn, in_left, in_right, in_map, are_places}
use Rattle.kube_schema_rules.proofs.Sorted.{same_key, key_cmp, in_ordered, in_up}
use Rattle.kube_schema_rules.specs.declared.branches.BranchKind.{BranchKind}
use Rattle.kube_schema_rules.specs.declared.branches.BranchKind.TheVariants.{AllOf, OneOf, AnyOf}
use Rattle.kube_schema_rules.specs.Inside.{keys_in, keys_at, count_at, in_order, up_to}
use Rattle.kube_schema_rules.specs.StepAccessors.{StepAccessors}
use Rattle.kube_schema_rules.specs.Visit.{Root, Visit, further, unless_there, member_path, item_path, goes, candidates, property_steps, item_steps, additional_steps, branch_steps}
use Rattle.kube_schema_rules.specs.Step.{Step, property, item, additional_property, branch, step_cmp}
use Rattle.kube_schema_rules.specs.Walk.{ArePlaces, AreFoundAtPlaces, places, answers}
use Rattle.serde_json.specs.Data.{Data, null, boolean, number, string, array, object, Items, no_items, item as one_item, Members, no_members, member}
use Rattle.serde_json.specs.Events.{items_len}
use Rattle.serde_json.specs.Find.{get, at, get_item, get_member}
use Rattle.std.proofs.Common.{◌≡◌, ◌<◌, ℕ, zero, suc, List, ◌++◌, Option, Some, None, option_and_then, IsSome, Ordering, Less, Equal, Greater, refl, sym, inl, inr, arith}
use Rattle.std.specs.List.Sorted.{IsStrictlySortedBy}
use Rattle.std.specs.Ordering.{match_ordering}

-- ---- the keys and the number of items of a value

within : (i : ℕ) (ds : Items) → IsSome (get_item i ds) → i < items_len ds
within i no_items h = cc
within zero (one_item d ds) h = omega arith
within (suc i) (one_item d ds) h = let r = within i ds h in omega arith

pub counted : (i : ℕ) (o : Option Data) → IsSome (option_and_then (at i) o) → i < count_at o
unfolding count_at
counted i None h = cc
counted i (Some null) h = cc
counted i (Some (boolean b)) h = cc
counted i (Some (number n)) h = cc
counted i (Some (string s)) h = cc
counted i (Some (object ms)) h = cc
counted i (Some (array ds)) h = within i ds h

in_keys : (k : List ℕ) (ms : Members) → IsSome (get_member k ms) → IsIn k (keys_in ms)
in_keys k no_members h = cc
in_keys k (member l d ms) h = by (key_cmp k l) refl h (λ g. in_keys k ms g)
  where
    by : (o : Ordering) → key_cmp k l ≡ o → IsSome (match_ordering o (get_member k ms) (Some d) (get_member k ms)) → (IsSome (get_member k ms) → IsIn k (keys_in ms)) → IsIn k (keys_in (member l d ms))
    by Less e h r = inr (r h)
    by Equal e h r = inl (sym (same_key k l e))
    by Greater e h r = inr (r h)

pub named : (k : List ℕ) (o : Option Data) → IsSome (option_and_then (get k) o) → IsIn k (keys_at o)
unfolding keys_at
named k None h = cc
named k (Some null) h = cc
named k (Some (boolean b)) h = cc
named k (Some (number n)) h = cc
named k (Some (string s)) h = cc
named k (Some (array ds)) h = cc
named k (Some (object ms)) h = in_keys k ms h

-- ---- they are sorted

node_there : {S : Type 0} (r : Option Root) (d : ℕ) (t : List ℕ) (a : Option S) (b c : Option Data) → IsSome (further r d t a b c) → IsSome a
node_there r d t None b c h = h
node_there r d t (Some n) b c h = refl

value_there : {S : Type 0} (r : Option Root) (d : ℕ) (t : List ℕ) (a : Option S) (b c : Option Data) → IsSome (further r d t a b c) → IsSome b
value_there r d t None b c h = cc
value_there r d t (Some n) None c h = h
value_there r d t (Some n) (Some v) c h = refl

-- accessors whose count covers all branches
pub record CountsAll {S : Type 0} (steps : StepAccessors S) : Type 0 where
  pub branches : (kind : BranchKind) (j : ℕ) (node : S) → IsSome (steps.branch kind j node) → j < steps.branch_count kind node

module _ {S : Type 0} (steps : StepAccessors S) where
  pub candidates_sorted : (s : Visit S) → IsStrictlySortedBy step_cmp (candidates steps s)
  unfolding candidates property_steps item_steps additional_steps branch_steps
  candidates_sorted s =
      (kind_before 0 (property_steps steps s) _ (properties_in_order (keys_at (Some s.value)))
      (kind_before 1 (item_steps steps s) _ (items_in_order (count_at (Some s.value)))
      (kind_before 2 (additional_steps steps s) _ (extras_in_order (keys_at (Some s.value)))
      (kind_before 3 (branch_steps steps AllOf s) _ (branches_in_order AllOf (steps.branch_count AllOf s.node))
      (kind_before 4 (branch_steps steps OneOf s) _ (branches_in_order OneOf (steps.branch_count OneOf s.node))
      (last_kind 5 (branch_steps steps AnyOf s) (branches_in_order AnyOf (steps.branch_count AnyOf s.node)))))))).sorted

  -- ---- they are complete

  in_branches : (kind : BranchKind) (j : ℕ) (s : Visit S) → j < steps.branch_count kind s.node → IsIn (branch kind j) (branch_steps steps kind s)
  unfolding branch_steps
  in_branches kind j s h = in_map (branch kind) j (up_to (steps.branch_count kind s.node)) (in_up j (steps.branch_count kind s.node) h)

  in_rest : (p : Step) (xs ys zs ws : List Step) → IsIn p ws → IsIn p (xs ++ (ys ++ (zs ++ ws)))
  in_rest p xs ys zs ws h = in_right p xs (ys ++ (zs ++ ws)) (in_right p ys (zs ++ ws) (in_right p zs ws h))

  branch_named : (kind : BranchKind) (p : Step) (s : Visit S) → IsIn p (branch_steps steps kind s) → IsIn p (branch_steps steps AllOf s ++ (branch_steps steps OneOf s ++ branch_steps steps AnyOf s))
  branch_named AllOf p s h = in_left p (branch_steps steps AllOf s) _ h
  branch_named OneOf p s h = in_right p (branch_steps steps AllOf s) _ (in_left p (branch_steps steps OneOf s) (branch_steps steps AnyOf s) h)
  branch_named AnyOf p s h = in_right p (branch_steps steps AllOf s) _ (in_right p (branch_steps steps OneOf s) (branch_steps steps AnyOf s) h)

  pub candidates_all : CountsAll steps → (p : Step) (s : Visit S) → IsSome (goes steps p s) → IsIn p (candidates steps s)
  unfolding candidates property_steps item_steps additional_steps goes
  candidates_all all (property k) s h =
      in_left (property k) (property_steps steps s) _ (in_map property k (in_order (keys_at (Some s.value)))
      (in_ordered k (keys_at (Some s.value)) (named k (Some s.value) (value_there None s.depth (member_path s.path k) (steps.property k s.node) _ _ h))))
  candidates_all all (item i) s h =
      in_right (item i) (property_steps steps s) _ (in_left (item i) (item_steps steps s) _ (in_map item i (up_to (count_at (Some s.value)))
      (in_up i (count_at (Some s.value)) (counted i (Some s.value) (value_there None s.depth (item_path s.path i) (steps.items s.node) _ _ h)))))
  candidates_all all (additional_property k) s h =
      in_right (additional_property k) (property_steps steps s) _ (in_right (additional_property k) (item_steps steps s) _ (in_left (additional_property k) (additional_steps steps s) _ (in_map additional_property k (in_order (keys_at (Some s.value)))
      (in_ordered k (keys_at (Some s.value)) (named k (Some s.value) (value_there None s.depth (member_path s.path k) (unless_there (steps.property k s.node) (steps.additional_property s.node)) _ _ h))))))
  candidates_all all (branch kind j) s h =
      in_rest (branch kind j) (property_steps steps s) (item_steps steps s) (additional_steps steps s) _
      (branch_named kind (branch kind j) s (in_branches kind j s (all.branches kind j s.node (node_there s.root s.depth s.path (steps.branch kind j s.node) (Some s.value) s.old h))))

  -- the computed places are the places
  pub visit_places : CountsAll steps → (n : ℕ) (s : Visit S) → ArePlaces (goes steps) n s (places (goes steps) (candidates steps) n s)
  visit_places all n s = are_places (goes steps) (candidates steps) candidates_sorted (candidates_all all) n s

  -- the computed findings are those at the places
  pub visit_answers : CountsAll steps → {E : Type 0} (found_at : Visit S → List E) (n : ℕ) (s : Visit S) → AreFoundAtPlaces (goes steps) found_at n s (answers (goes steps) (candidates steps) found_at n s)
  unfolding answers
  visit_answers all found_at n s = record { all_places = places (goes steps) (candidates steps) n s; are_all = visit_places all n s; joined = refl }
