-- Trusted by the headline.
-- The tree that a number stands for in a table.
use Rattle.std.specs.Prelude.{◌≡◌, ◌<◌, ◌≤◌, ◌+◌, ℕ, zero, suc, List, [], ◌∷◌, length, map, Bool, false, is_some, Option, Some, None, option_map, slice_get, string_bytes, ⊤}
use Rattle.std.specs.Cmp.Lexicographic.{slice_cmp}
use Rattle.std.specs.Ordering.{nat_cmp}
use Rattle.std.specs.List.{list_any}
use Rattle.std.specs.List.Sorted.{IsStrictlySortedBy}
use Rattle.std.specs.Coded.{Unit-prop, le_prop}
use Rattle.serde_json.specs.View.{view}
use Rattle.kube_schema_values.specs.declared.format.SchemaFormat.TheVariants as format
use Rattle.kube_schema_rules.specs.Compilation.{compiled_seen}
use Rattle.kube_schema.specs.declared.nodes.NodeId.{NodeId}
use Rattle.kube_schema.specs.declared.nodes.PropertyLink.{PropertyLink}
use Rattle.kube_schema.specs.declared.nodes.Keywords.{Keywords}
use Rattle.kube_schema.specs.declared.nodes.Children.{Children}
use Rattle.kube_schema.specs.declared.nodes.TableNode.{TableNode}
use Rattle.kube_schema.specs.Tree.{Own, Node, node, Maybe, nothing, just, Named, no_named, named, Nodes, no_nodes, more, count, named_count, maybe_count, nodes_count}

-- ---- one node, with the tree of each number given by f

unfoldable pub keywords_view : Keywords → Own
keywords_view k = record {
  validations = map compiled_seen k.validations.rules.items;
  format = k.format;
  is_map = k.is_map;
  preserves = k.preserve_unknown_fields;
  embedded = k.embedded_resource;
  max_length = k.max_length;
  max_items = k.max_items;
  max_properties = k.max_properties;
  default = option_map view k.default;
}

abbrev pub named_at : (ℕ → Node) → List PropertyLink → Named
named_at f [] = no_named
named_at f (l ∷ ls) = named (string_bytes l.name) (f l.node.0) (named_at f ls)

abbrev pub maybe_at : (ℕ → Node) → Option NodeId → Maybe
maybe_at f None = nothing
maybe_at f (Some n) = just (f n.0)

abbrev pub nodes_at : (ℕ → Node) → List NodeId → Nodes
nodes_at f [] = no_nodes
nodes_at f (n ∷ ns) = more (f n.0) (nodes_at f ns)

unfoldable pub with_children : (ℕ → Node) → Children → Own → Node
with_children f c o =
    node o (named_at f c.properties.items) (maybe_at f c.items) (maybe_at f c.additional)
    (nodes_at f c.all_of.items) (nodes_at f c.one_of.items) (nodes_at f c.any_of.items)

abbrev pub childless : Own → Node
childless o = node o no_named nothing nothing no_nodes no_nodes no_nodes

abbrev pub blank : Node
blank = childless (record {
  validations = [];
  format = format.None;
  is_map = false;
  preserves = false;
  embedded = false;
  max_length = None;
  max_items = None;
  max_properties = None;
  default = None;
})

-- ---- the defaults of a table

-- ---- the numbers of a node

abbrev pub LinksWithin : ℕ → ℕ → List PropertyLink → Type 0
LinksWithin low high [] = ⊤
LinksWithin low high (l ∷ ls) = (low ≤ l.node.0) × (l.node.0 < high) × LinksWithin low high ls

abbrev pub MaybeWithin : ℕ → ℕ → Option NodeId → Type 0
MaybeWithin low high None = ⊤
MaybeWithin low high (Some n) = (low ≤ n.0) × (n.0 < high)

abbrev pub NumbersWithin : ℕ → ℕ → List NodeId → Type 0
NumbersWithin low high [] = ⊤
NumbersWithin low high (n ∷ ns) = (low ≤ n.0) × (n.0 < high) × NumbersWithin low high ns

-- all numbers are at least low and below high
abbrev pub IsWithin : ℕ → ℕ → Children → Type 0
IsWithin low high c =
    LinksWithin low high c.properties.items × MaybeWithin low high c.items × MaybeWithin low high c.additional
    × NumbersWithin low high c.all_of.items × NumbersWithin low high c.one_of.items
    × NumbersWithin low high c.any_of.items

links_prop : (low high : ℕ) (ls : List PropertyLink) → IsProp (LinksWithin low high ls)
links_prop low high [] = Unit-prop
links_prop low high (l ∷ ls) = hlevel (le_prop, links_prop low high ls)

maybe_prop : (low high : ℕ) (o : Option NodeId) → IsProp (MaybeWithin low high o)
maybe_prop low high None = Unit-prop
maybe_prop low high (Some n) = hlevel le_prop

numbers_prop : (low high : ℕ) (ns : List NodeId) → IsProp (NumbersWithin low high ns)
numbers_prop low high [] = Unit-prop
numbers_prop low high (n ∷ ns) = hlevel (le_prop, numbers_prop low high ns)

-- ---- the order of a node's names

abbrev pub link_names : List PropertyLink → List (List ℕ)
link_names [] = []
link_names (l ∷ ls) = string_bytes l.name ∷ link_names ls

abbrev pub LinksOrdered : List PropertyLink → Type 0
LinksOrdered ls = IsStrictlySortedBy (slice_cmp nat_cmp) (link_names ls)

-- ---- how a table grows

-- ---- a table, whatever it keeps of the keywords of a node

module _ {K : Type 0} where
  -- each node's numbers are indices of later nodes of the table
  abbrev pub Closed : List (TableNode K) → Type 0
  Closed t = (i : ℕ) (r : TableNode K) → slice_get t i ≡ Some r → IsWithin (suc i) (length t) r.children

  pub closed_prop : (t : List (TableNode K)) → IsProp (Closed t)
  closed_prop t = hlevel (links_prop, maybe_prop, numbers_prop)

  abbrev pub AllOrdered : List (TableNode K) → Type 0
  AllOrdered t = (i : ℕ) (r : TableNode K) → slice_get t i ≡ Some r → LinksOrdered r.children.properties.items

  -- the second table has all nodes of the first from index low on
  pub record Later (low : ℕ) (t u : List (TableNode K)) : Type 0 where
    pub longer : length t ≤ length u
    pub same : (j : ℕ) → low ≤ j → j < length t → slice_get u j ≡ slice_get t j

-- own_of says which keywords are those that a table keeps as a K
module _ {K : Type 0} (own_of : K → Own) where
  unfoldable pub assemble : (ℕ → Node) → TableNode K → Node
  assemble f r = with_children f r.children (own_of r.keywords)

  abbrev pub assemble_some : (ℕ → Node) → Option (TableNode K) → Node
  assemble_some f None = blank
  assemble_some f (Some r) = assemble f r

  -- the tree, followed at most n levels deep
  unfoldable pub tree_in : ℕ → List (TableNode K) → ℕ → Node
  tree_in zero t i = blank
  tree_in (suc n) t i = assemble_some (tree_in n t) (slice_get t i)

  -- numbers only lead onwards, so no path is longer than the table
  unfoldable pub tree : List (TableNode K) → ℕ → Node
  tree t i = tree_in (length t) t i

  abbrev pub has_default : TableNode K → Bool
  has_default r = is_some (own_of r.keywords).default

  -- a node of the table has a default
  abbrev pub any_default : List (TableNode K) → Bool
  any_default t = list_any has_default t

  -- one node is appended, without children
  pub record Appends (old new : List (TableNode K)) (n : NodeId) (keywords : K) : Type 0 where
    pub last : n.0 ≡ length old
    pub within : length new ≡ suc (length old)
    pub grows : Later 0 old new
    pub shows : tree new n.0 ≡ childless (own_of keywords)

  -- nodes are appended; the first of them stands for the tree
  pub record Adds (old new : List (TableNode K)) (n : NodeId) (shown : Node) : Type 0 where
    pub first : n.0 ≡ length old
    pub within : n.0 < length new
    pub grows : Later 0 old new
    pub shows : tree new n.0 ≡ shown
    pub counted : length new ≡ length old + count shown

  pub record AddsNamed (old new : List (TableNode K)) (ls : List PropertyLink) (shown : Named) : Type 0 where
    pub within : LinksWithin (length old) (length new) ls
    pub grows : Later 0 old new
    pub shows : named_at (tree new) ls ≡ shown
    pub counted : length new ≡ length old + named_count shown

  pub record AddsProperties (old new : List (TableNode K)) (ls : List PropertyLink) (shown : Named) : Type 0 where
    pub adds : AddsNamed old new ls shown
    pub ordered : LinksOrdered ls

  pub record AddsMaybe (old new : List (TableNode K)) (o : Option NodeId) (shown : Maybe) : Type 0 where
    pub within : MaybeWithin (length old) (length new) o
    pub grows : Later 0 old new
    pub shows : maybe_at (tree new) o ≡ shown
    pub counted : length new ≡ length old + maybe_count shown

  pub record AddsNodes (old new : List (TableNode K)) (ns : List NodeId) (shown : Nodes) : Type 0 where
    pub within : NumbersWithin (length old) (length new) ns
    pub grows : Later 0 old new
    pub shows : nodes_at (tree new) ns ≡ shown
    pub counted : length new ≡ length old + nodes_count shown

  -- nodes are appended, among them these children; a node
  -- with given keywords and these children is the tree
  pub record AddsChildren (old new : List (TableNode K)) (c : Children) (shown : Own → Node) : Type 0 where
    pub within : IsWithin (length old) (length new) c
    pub ordered : LinksOrdered c.properties.items
    pub grows : Later 0 old new
    pub shows : (o : Own) → with_children (tree new) c o ≡ shown o
    pub counted : (o : Own) → suc (length new) ≡ length old + count (shown o)

  -- a node without the form in which its keywords are kept
  abbrev pub shape : TableNode K → Children × Own
  shape r = (r.children, own_of r.keywords)

-- the nodes are the same, however their keywords are kept
abbrev pub AreSame : {K L : Type 0} → (K → Own) → (L → Own) → List (TableNode K) → List (TableNode L) → Type 0
AreSame own_of own_in old new = map (shape own_in) new ≡ map (shape own_of) old
