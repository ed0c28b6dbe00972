use Rattle.cel.specs.Book.{Extends, Book}
use Rattle.cel.specs.Entries.{entries_of}
use Rattle.kube_cel_walk.specs.Errors.{error_view}
use Rattle.kube_schema_rules.specs.Inside.{up_to}
use Rattle.kube_schema_rules.specs.Step.{property, item, additional_property, branch}
use Rattle.kube_cel_walk.proofs.Entries.{names_of}
use Rattle.kube_cel_walk.proofs.walk.+walk.Given as goal
use Rattle.kube_cel_walk.specs.Answers.{found_through}
use Rattle.kube_cel_walk.specs.Paths.{path_view}
use Rattle.kube_cel_walk.specs.Visits.{visit_at}
use Rattle.serde_json.proofs.Views.{Entry}
use Rattle.serde_json.specs.Find.{as_object}
use Rattle.serde_json.specs.View.{view, members_view}
use Rattle.std.proofs.Common.{◌≡◌, ◌*◌, ◌-◌, List, ◌++◌, map, Some, string_cmp}
use Rattle.std.specs.List.Sorted.{IsStrictlySortedBy}
use Rattle.std.specs.Map.{keys_of}

abbrev pub decreases-walk_node : goal.decreases-walk_node
decreases-walk_node g l = 3 * (66 - l.state.now.depth)

abbrev pub decreases-walk_properties : goal.decreases-walk_properties
decreases-walk_properties g l = 3 * (66 - l.state.now.depth) - 1

abbrev pub decreases-walk_items : goal.decreases-walk_items
decreases-walk_items g l = 3 * (66 - l.state.now.depth) - 1

abbrev pub decreases-walk_extras : goal.decreases-walk_extras
decreases-walk_extras g l = 3 * (66 - l.state.now.depth) - 1

abbrev pub decreases-walk_branches : goal.decreases-walk_branches
decreases-walk_branches g l = 3 * (66 - l.state.now.depth) - 1

abbrev pub decreases-walk_member : goal.decreases-walk_member
decreases-walk_member g l = 3 * (66 - l.state.now.depth) - 2

abbrev pub decreases-walk_item : goal.decreases-walk_item
decreases-walk_item g l = 3 * (66 - l.state.now.depth) - 2

abbrev pub decreases-walk_branch : goal.decreases-walk_branch
decreases-walk_branch g l = 3 * (66 - l.state.now.depth) - 2

abbrev pub invariant-walk_properties-loop-key : goal.invariant-walk_properties-loop-key
invariant-walk_properties-loop-key g l = record {
  done : List Entry;
  all : Some (members_view (done ++ l.key-iterator)) ≡ as_object (view l.state.value.now);
  ordered : IsStrictlySortedBy string_cmp (keys_of (done ++ l.key-iterator));
  keeps : (b : Book) → Extends b (entries_of l.book) → Extends b (entries_of l.initial.book);
  found : (b : Book) → Extends b (entries_of l.book) → map error_view l.errors.items ≡ map error_view l.initial.errors.items
      ++ found_through g.N.Node.form b (64 - l.state.depth) (visit_at g.N.Node.seen l.state (path_view l.path)) (map property (names_of done));
}

abbrev pub invariant-walk_extras-loop-key : goal.invariant-walk_extras-loop-key
invariant-walk_extras-loop-key g l = record {
  done : List Entry;
  all : Some (members_view (done ++ l.key-iterator)) ≡ as_object (view l.state.value.now);
  ordered : IsStrictlySortedBy string_cmp (keys_of (done ++ l.key-iterator));
  keeps : (b : Book) → Extends b (entries_of l.book) → Extends b (entries_of l.initial.book);
  found : (b : Book) → Extends b (entries_of l.book) → map error_view l.errors.items ≡ map error_view l.initial.errors.items
      ++ found_through g.N.Node.form b (64 - l.state.depth) (visit_at g.N.Node.seen l.state (path_view l.path)) (map additional_property (names_of done));
}

abbrev pub invariant-walk_items-loop-index : goal.invariant-walk_items-loop-index
invariant-walk_items-loop-index g l = record {
  keeps : (b : Book) → Extends b (entries_of l.book) → Extends b (entries_of l.initial.book);
  found : (b : Book) → Extends b (entries_of l.book) → map error_view l.errors.items ≡ map error_view l.initial.errors.items
      ++ found_through g.N.Node.form b (64 - l.state.depth) (visit_at g.N.Node.seen l.state (path_view l.path)) (map item (up_to l.index));
}

abbrev pub invariant-walk_branches-loop-index : goal.invariant-walk_branches-loop-index
invariant-walk_branches-loop-index g l = record {
  keeps : (b : Book) → Extends b (entries_of l.book) → Extends b (entries_of l.initial.book);
  found : (b : Book) → Extends b (entries_of l.book) → map error_view l.errors.items ≡ map error_view l.initial.errors.items
      ++ found_through g.N.Node.form b (64 - l.state.depth) (visit_at g.N.Node.seen l.state (path_view l.path)) (map (branch l.fn.kind) (up_to l.index));
}
