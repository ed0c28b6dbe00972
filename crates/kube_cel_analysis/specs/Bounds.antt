-- Trusted by the clauses of analysis and linter.
-- The greatest sizes that a node of a schema allows (Kubernetes
-- documentation, "Resource use by validation functions": `maxItems` and
-- `maxLength` limit the cost of a rule; without them, a size is assumed).
use Rattle.std.specs.Prelude.{ℕ, Bool, false, ◌&&◌, ◌||◌, is_some, is_none, unwrap_or, Option, option_map}
use Rattle.kube_cel_analysis.specs.Cost.{Sizes}
use Rattle.kube_schema.specs.Tree.{Node, Named, no_named, named, named_of, items_of, own}

-- the size of a node that has items; the assumed size if it sets none
abbrev pub list_bound : Node → Option ℕ
list_bound n = option_map (λ items. unwrap_or (own n).max_items 1000) (items_of n)

abbrev pub text_bound : Node → Option ℕ
text_bound n = (own n).max_length

-- the size of the first node that has one, in the order of names
abbrev pub first_bound : (Node → Option ℕ) → Named → ℕ
first_bound f no_named = 1000
first_bound f (named k n ns) = unwrap_or (f n) (first_bound f ns)

-- the sizes that the node itself sets come first
unfoldable pub sizes_of : Node → Sizes
sizes_of n = record {
  items = unwrap_or (own n).max_items (first_bound list_bound (named_of n));
  length = unwrap_or (own n).max_length (first_bound text_bound (named_of n));
}

-- an unbounded list
abbrev pub is_unbounded : Node → Bool
is_unbounded n = is_some (items_of n) && is_none (own n).max_items

abbrev pub has_unbounded : Named → Bool
has_unbounded no_named = false
has_unbounded (named k n ns) = is_unbounded n || has_unbounded ns
