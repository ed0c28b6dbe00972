-- A walk reads only what the tree keeps of a schema.
use Rattle.std.proofs.Common.{◌≡◌, ◌+◌, ℕ, zero, suc, List, length, Option, Some, None, option_map, option_and_then, unwrap_or, refl, ap, ◌∙◌, codes}
use Rattle.serde_json.specs.Data.{Data, null, boolean, number, string, array, object, Items, no_items, item}
use Rattle.serde_json.specs.Events.{items_len}
use Rattle.serde_json.specs.Find.{as_array, at, get, get_item}
use Rattle.kube_schema.specs.BranchKind.{BranchKind}
use Rattle.kube_schema.specs.BranchKind.TheVariants.{AllOf, OneOf, AnyOf}
use Rattle.kube_schema.specs.Inside.{count_at, keys_at}
use Rattle.kube_schema.specs.RulesRaw as seen
use Rattle.kube_schema.specs.RulesRaw.{raw_steps}
use Rattle.kube_schema.specs.Visit.{Visit, goes, candidates}
use Rattle.kube_schema.specs.Step.{Step}
use Rattle.kube_schema.specs.Walk.{leads, places, answers}
use Rattle.kube_schema.specs.DefaultsAccessors.{additional, declared_properties, members_or_none, preserves, property}
use Rattle.kube_schema_values.proofs.Fills.{property_is}
use Rattle.kube_schema.specs.Tree.{Node, nodes_length, nth_node}
use Rattle.kube_schema.specs.View.{branches, children_view, items_or_none, nodes_view, own_view, view_of}
use Rattle.kube_schema.proofs.SameDefaults.{find_same, maybe_same, unless}
use Rattle.kube_cel.specs.CompiledSteps.{compiled_steps}
use Rattle.kube_cel.specs.Visits.{with_node_of}
use Rattle.kube_cel.proofs.PlacesAlike.{Alike, places_same, leads_same, answers_same}

length_same : (f : Data → Node) (ds : Items) → items_len ds ≡ nodes_length (nodes_view f ds)
length_same f no_items = refl
length_same f (item d ds) = ap suc (length_same f ds)

counts_are : (f : Data → Node) (o : Option Items) → items_len (unwrap_or o no_items) ≡ nodes_length (nodes_view f (items_or_none o))
counts_are f None = refl
counts_are f (Some ds) = length_same f ds

nth_same : (f : Data → Node) (i : ℕ) (ds : Items) → option_map f (get_item i ds) ≡ nth_node i (nodes_view f ds)
nth_same f i no_items = refl
nth_same f zero (item d ds) = refl
nth_same f (suc i) (item d ds) = nth_same f i ds

nth_is : (f : Data → Node) (i : ℕ) (o : Option Data) → option_map f (option_and_then (at i) o) ≡ nth_node i (nodes_view f (items_or_none (option_and_then as_array o)))
nth_is f i None = refl
nth_is f i (Some null) = refl
nth_is f i (Some (boolean b)) = refl
nth_is f i (Some (number n)) = refl
nth_is f i (Some (string s)) = refl
nth_is f i (Some (array ds)) = nth_same f i ds
nth_is f i (Some (object ms)) = refl

module _ (n : ℕ) (s : Data) where
  counted : (kind : BranchKind) → raw_steps.branch_count kind s ≡ compiled_steps.branch_count kind (view_of (suc n) s)
  unfolding view_of own_view children_view raw_steps compiled_steps count_at branches
  counted AllOf = counts_are (view_of n) (option_and_then as_array (get (codes "allOf") s))
  counted OneOf = counts_are (view_of n) (option_and_then as_array (get (codes "oneOf") s))
  counted AnyOf = counts_are (view_of n) (option_and_then as_array (get (codes "anyOf") s))

  branched : (kind : BranchKind) (i : ℕ) → option_map (view_of n) (raw_steps.branch kind i s) ≡ compiled_steps.branch kind i (view_of (suc n) s)
  unfolding view_of own_view children_view raw_steps compiled_steps branches
  branched AllOf i = nth_is (view_of n) i (get (codes "allOf") s)
  branched OneOf i = nth_is (view_of n) i (get (codes "oneOf") s)
  branched AnyOf i = nth_is (view_of n) i (get (codes "anyOf") s)

  pub alike : Alike raw_steps compiled_steps (view_of n) s (view_of (suc n) s)
  unfolding view_of own_view children_view raw_steps compiled_steps seen.declared_property seen.undeclared_property keys_at declared_properties preserves additional property
  alike = record {
    property = λ k. ap (option_map (view_of n)) (property_is k s) ∙ find_same (view_of n) k (members_or_none (declared_properties s));
    items = maybe_same (view_of n) (get (codes "items") s);
    additional_property = unless (view_of n) (preserves s) (additional s);
    branch_count = counted;
    branch = branched;
    old_member = λ k old. refl;
    old_item = λ i value old. refl;
  }

pub tree_places : (n : ℕ) (s : Visit Data) → places (goes raw_steps) (candidates raw_steps) n s ≡ places (goes compiled_steps) (candidates compiled_steps) n (with_node_of (view_of n) s)
tree_places = places_same raw_steps compiled_steps view_of alike

pub tree_leads : (n : ℕ) (ps : List Step) (s : Visit Data) → option_map (with_node_of (view_of n)) (leads (goes raw_steps) ps s) ≡ leads (goes compiled_steps) ps (with_node_of (view_of (n + length ps)) s)
tree_leads = leads_same raw_steps compiled_steps view_of alike

-- if schema and tree have the same findings at each
-- visit, then they have the same findings at all places
pub tree_answers : {E : Type 0} (found : Visit Data → List E) (found_in_tree : Visit Node → List E) (levels : ℕ) → ((n : ℕ) (s : Visit Data) → s.depth + n ≡ levels → found s ≡ found_in_tree (with_node_of (view_of n) s))
    → (n : ℕ) (s : Visit Data) → s.depth + n ≡ levels → answers (goes raw_steps) (candidates raw_steps) found n s ≡ answers (goes compiled_steps) (candidates compiled_steps) found_in_tree n (with_node_of (view_of n) s)
tree_answers = answers_same raw_steps compiled_steps view_of alike
