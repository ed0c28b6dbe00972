-- Trusted by laws alone.
-- A schema with rules appended to those of one of its nodes.
use Rattle.kube_schema.specs.BranchKind.{BranchKind}
use Rattle.kube_schema.specs.Step as step
use Rattle.kube_schema.specs.Step.{branch_rank, keyword}
use Rattle.serde_json.specs.Data.{Data, null, boolean, number, string, array, object, Items, no_items, item, Members, no_members, member}
use Rattle.std.specs.Prelude.{ℕ, zero, suc, ◌==◌, ◌&&◌, List, [], ◌∷◌, Bool, if◌then◌else◌, Option, Some, None, option_and_then, codes}
use Rattle.std.specs.Str.{bytes_eq}

-- ---- a value with one part changed

abbrev pub members_with : List ℕ → (Data → Data) → Members → Members
members_with k f no_members = no_members
members_with k f (member l d ms) = member l (if bytes_eq k l then f d else d) (members_with k f ms)

abbrev pub items_with : ℕ → (Data → Data) → Items → Items
items_with i f no_items = no_items
items_with zero f (item d ds) = item (f d) ds
items_with (suc i) f (item d ds) = item d (items_with i f ds)

abbrev pub all_items : Items → Items → Items
all_items no_items more = more
all_items (item d ds) more = item d (all_items ds more)

-- an object with f applied to the member at a key
abbrev pub with_key : List ℕ → (Data → Data) → Data → Data
with_key k f null = null
with_key k f (boolean b) = boolean b
with_key k f (number n) = number n
with_key k f (string s) = string s
with_key k f (array ds) = array ds
with_key k f (object ms) = object (members_with k f ms)

-- a list with f applied to the item at an index
abbrev pub with_index : ℕ → (Data → Data) → Data → Data
with_index i f null = null
with_index i f (boolean b) = boolean b
with_index i f (number n) = number n
with_index i f (string s) = string s
with_index i f (array ds) = array (items_with i f ds)
with_index i f (object ms) = object ms

-- a list with more items appended
abbrev pub with_items : Items → Data → Data
with_items more null = null
with_items more (boolean b) = boolean b
with_items more (number n) = number n
with_items more (string s) = string s
with_items more (array ds) = array (all_items ds more)
with_items more (object ms) = object ms

-- ---- a schema with more rules at one node

-- one step from a node of a schema to a node within it
pub data NodeStep : Type 0 where
  to_property : List ℕ → NodeStep
  to_items : NodeStep
  to_additional : NodeStep
  to_branch : BranchKind → ℕ → NodeStep

-- where that node stands: under a keyword, and within the value there
abbrev pub keyword_of : NodeStep → List ℕ
keyword_of (to_property k) = codes "properties"
keyword_of to_items = codes "items"
keyword_of to_additional = codes "additionalProperties"
keyword_of (to_branch kind i) = keyword kind

abbrev pub within : NodeStep → (Data → Data) → Data → Data
within (to_property k) f = with_key k f
within to_items f = f
within to_additional f = f
within (to_branch kind i) f = with_index i f

-- the schema with these rules appended to those of the node
-- that the steps lead to, if that node has a list of rules
abbrev pub with_rules : Items → List NodeStep → Data → Data
with_rules more [] = with_key (codes "x-kubernetes-validations") (with_items more)
with_rules more (t ∷ ts) = with_key (keyword_of t) (within t (with_rules more ts))

-- ---- the places of that node

-- the schema's step in a step through schema and value
abbrev pub node_step : step.Step → NodeStep
node_step (step.property k) = to_property k
node_step (step.item i) = to_items
node_step (step.additional_property k) = to_additional
node_step (step.branch kind i) = to_branch kind i

abbrev pub rank : NodeStep → ℕ
rank (to_property k) = 0
rank to_items = 1
rank to_additional = 2
rank (to_branch kind i) = branch_rank kind

abbrev pub content : NodeStep → List ℕ
content (to_property k) = k
content to_items = []
content to_additional = []
content (to_branch kind i) = i ∷ []

abbrev pub same_step : NodeStep → NodeStep → Bool
same_step t u = (rank t == rank u) && bytes_eq (content t) (content u)

-- the steps that remain to the node after one step of a place; none if that step leads elsewhere
abbrev pub left_after : step.Step → List NodeStep → Option (List NodeStep)
left_after p [] = None
left_after p (t ∷ ts) = if same_step t (node_step p) then Some ts else None

-- the steps that remain after all steps of a place
abbrev pub left_behind : List step.Step → Option (List NodeStep) → Option (List NodeStep)
left_behind [] r = r
left_behind (p ∷ ps) r = left_behind ps (option_and_then (left_after p) r)
