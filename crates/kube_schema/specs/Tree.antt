-- Trusted by the headline.
-- A schema as a tree of nodes: Kubernetes documentation, "Extend the Kubernetes API with
-- CustomResourceDefinitions", "Specifying a structural schema".
use Rattle.std.specs.Prelude.{ℕ, zero, suc, ◌+◌, List, [], ◌∷◌, Bool, Option, Some, None, Result, Ok, Err}
use Rattle.std.specs.Ordering.{nat_cmp, match_ordering}
use Rattle.std.specs.Cmp.Lexicographic.{slice_cmp}
use Rattle.serde_json.specs.Data.{Data}
use Rattle.kube_schema_values.specs.declared.format.SchemaFormat.{SchemaFormat}
use Rattle.kube_schema_rules.specs.Compilation.{Compiled, Malformed}
use Rattle.kube_schema_rules.specs.declared.branches.BranchKind.{BranchKind}
use Rattle.kube_schema_rules.specs.declared.branches.BranchKind.TheVariants.{AllOf, OneOf, AnyOf}

-- the keywords of a node
pub record Own : Type 0 where
  -- its rules in order, each either compiled or with the reason why it is malformed
  pub validations : List (Result Compiled Malformed)
  -- the format by which its strings are converted
  pub format : SchemaFormat
  pub is_map : Bool
  pub preserves : Bool
  pub embedded : Bool
  pub max_length : Option ℕ
  pub max_items : Option ℕ
  pub max_properties : Option ℕ
  pub default : Option Data

mutual
  -- a node: its keywords, its properties, the node of list items, the
  -- node of undeclared keys, and the branches of allOf, oneOf and anyOf
  pub data Node : Type 0 where
    node : Own → Named → Maybe → Maybe → Nodes → Nodes → Nodes → Node

  pub data Maybe : Type 0 where
    nothing : Maybe
    just : Node → Maybe

  pub data Named : Type 0 where
    no_named : Named
    named : List ℕ → Node → Named → Named

  pub data Nodes : Type 0 where
    no_nodes : Nodes
    more : Node → Nodes → Nodes

abbrev pub own : Node → Own
own (node o ps it ad xs ys zs) = o

abbrev pub named_of : Node → Named
named_of (node o ps it ad xs ys zs) = ps

abbrev pub all_of : Node → Nodes
all_of (node o ps it ad xs ys zs) = xs

abbrev pub one_of : Node → Nodes
one_of (node o ps it ad xs ys zs) = ys

abbrev pub any_of : Node → Nodes
any_of (node o ps it ad xs ys zs) = zs

-- the branches under a keyword
abbrev pub branches_of : BranchKind → Node → Nodes
branches_of AllOf n = all_of n
branches_of OneOf n = one_of n
branches_of AnyOf n = any_of n

abbrev pub as_option : Maybe → Option Node
as_option nothing = None
as_option (just n) = Some n

-- the node of list items
abbrev pub items_of : Node → Option Node
items_of (node o ps it ad xs ys zs) = as_option it

-- the node of undeclared keys
abbrev pub additional_of : Node → Option Node
additional_of (node o ps it ad xs ys zs) = as_option ad

abbrev pub find : List ℕ → Named → Option Node
find k no_named = None
find k (named l n ns) = match_ordering (slice_cmp nat_cmp k l) (find k ns) (Some n) (find k ns)

-- the node that `properties` declares for a key
abbrev pub property_of : List ℕ → Node → Option Node
property_of k n = find k (named_of n)

abbrev pub names : Named → List (List ℕ)
names no_named = []
names (named k n ns) = k ∷ names ns

abbrev pub nth_named : ℕ → Named → Option (List ℕ × Node)
nth_named i no_named = None
nth_named zero (named l n ns) = Some (l, n)
nth_named (suc i) (named l n ns) = nth_named i ns

abbrev pub nth_node : ℕ → Nodes → Option Node
nth_node i no_nodes = None
nth_node zero (more n ns) = Some n
nth_node (suc i) (more n ns) = nth_node i ns

-- the number of branches
abbrev pub nodes_length : Nodes → ℕ
nodes_length no_nodes = 0
nodes_length (more n ns) = suc (nodes_length ns)

abbrev pub default_of : Node → Option Data
default_of n = (own n).default

-- the reasons why rules are malformed, for those that are
abbrev pub malformed_in : List (Result Compiled Malformed) → List Malformed
malformed_in [] = []
malformed_in (Ok c ∷ rs) = malformed_in rs
malformed_in (Err m ∷ rs) = m ∷ malformed_in rs

-- the number of nodes
abbrev mutual
  pub count : Node → ℕ
  count (node o ps it ad xs ys zs) =
      suc (named_count ps + (maybe_count it
      + (maybe_count ad + (nodes_count xs + (nodes_count ys + nodes_count zs)))))

  pub maybe_count : Maybe → ℕ
  maybe_count nothing = 0
  maybe_count (just n) = count n

  pub named_count : Named → ℕ
  named_count no_named = 0
  named_count (named k n ns) = count n + named_count ns

  pub nodes_count : Nodes → ℕ
  nodes_count no_nodes = 0
  nodes_count (more n ns) = count n + nodes_count ns
