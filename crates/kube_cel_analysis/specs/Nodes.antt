-- Trusted by the clauses of analysis and linter.
-- The nodes of a schema as lists of steps from its root, in the order of places,
-- and the findings of the rules of all of them. The steps are those of places,
-- but need no value: the step to the node of list items is the one to item 0,
-- and the step to the node of undeclared keys is the one to the empty key.
use Rattle.std.specs.Prelude.{◌≡◌, ◌↔◌, ℕ, zero, suc, List, [], ◌∷◌, Option, None, Contains, IsSome}
use Rattle.std.specs.List.{flat_map}
use Rattle.std.specs.List.Sorted.{IsStrictlySortedBy}
use Rattle.kube_cel_analysis.specs.Findings.{Finding, Naming, rules_findings}
use Rattle.kube_cel_analysis.specs.Pointers.{property_pointer, items_pointer, additional_pointer, branch_pointer}
use Rattle.kube_schema.specs.Step.{Step, property, item, additional_property, branch, place_cmp}
use Rattle.kube_schema.specs.Walk.{if_some, leads}
use Rattle.kube_schema.specs.Tree.{branches_of, Node, own, property_of, items_of, additional_of, nth_node}

-- where a step leads from a node, if it leads to a node
unfoldable pub goes : Step → Node → Option Node
goes (property k) n = property_of k n
goes (item zero) n = items_of n
goes (item (suc i)) n = None
goes (additional_property []) n = additional_of n
goes (additional_property (b ∷ bs)) n = None
goes (branch kind i) n = nth_node i (branches_of kind n)

-- the pointer of the node that a step leads to, from the pointer of the node where it begins
abbrev pub pointer_after : List ℕ → Step → List ℕ
pointer_after p (property k) = property_pointer p k
pointer_after p (item i) = items_pointer p
pointer_after p (additional_property k) = additional_pointer p
pointer_after p (branch kind i) = branch_pointer kind p i

unfoldable pub pointer_behind : List ℕ → List Step → List ℕ
pointer_behind p [] = p
pointer_behind p (s ∷ steps) = pointer_behind (pointer_after p s) steps

-- the pointer of the node at these steps from the root
abbrev pub pointer_of : List Step → List ℕ
pointer_of steps = pointer_behind [] steps

-- the findings of the rules of the node at these steps, in order
unfoldable pub found_at : Naming → Node → List Step → List Finding
found_at names root steps =
    if_some (λ n. rules_findings names (pointer_of steps) n (own n).validations) (leads goes steps root)

-- The findings of a schema: those at exactly its nodes,
-- each node once and in the order of places, concatenated.
pub record AreFoundAtNodes (names : Naming) (root : Node) (found : List Finding) : Type 0 where
  pub nodes : List (List Step)
  pub ordered : IsStrictlySortedBy place_cmp nodes
  pub exactly : (steps : List Step) → Contains nodes steps ↔ IsSome (leads goes steps root)
  pub joined : found ≡ flat_map (found_at names root) nodes
