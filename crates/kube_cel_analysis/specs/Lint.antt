-- Trusted by the clauses of analysis and linter.
-- The findings of all rules of a schema: those of a node before those of the nodes within
-- it, and these in the order in which Kubernetes' walk over an object visits them
-- (properties by name, list items, undeclared keys, the branches of allOf, oneOf and anyOf).
use Rattle.std.specs.Prelude.{ℕ, suc, List, [], ◌++◌, Option, Some, None}
use Rattle.kube_cel_analysis.specs.Findings.{Finding, Naming, rules_findings}
use Rattle.kube_cel_analysis.specs.Pointers.{property_pointer, items_pointer, additional_pointer, branch_pointer}
use Rattle.kube_schema.specs.BranchKind.{BranchKind}
use Rattle.kube_schema.specs.BranchKind.TheVariants.{AllOf, OneOf, AnyOf}
use Rattle.kube_schema.specs.Tree.{Node, node, Maybe, nothing, just, Named, no_named, named, Nodes, no_nodes, more}

unfoldable mutual
  -- the findings of a node at this pointer
  pub findings : Naming → List ℕ → Node → List Finding
  findings names p (node o ps it ad xs ys zs) =
      rules_findings names p (node o ps it ad xs ys zs) o.validations
      ++ (named_findings names p ps
      ++ (maybe_findings names (items_pointer p) it
      ++ (maybe_findings names (additional_pointer p) ad
      ++ (branch_findings names AllOf p 0 xs
      ++ (branch_findings names OneOf p 0 ys
      ++ branch_findings names AnyOf p 0 zs)))))

  pub maybe_findings : Naming → List ℕ → Maybe → List Finding
  maybe_findings names p nothing = []
  maybe_findings names p (just n) = findings names p n

  -- the findings of the properties of the node at this pointer
  pub named_findings : Naming → List ℕ → Named → List Finding
  named_findings names p no_named = []
  named_findings names p (named k n ns) = findings names (property_pointer p k) n ++ named_findings names p ns

  -- the findings of its branches from index i on
  pub branch_findings : Naming → BranchKind → List ℕ → ℕ → Nodes → List Finding
  branch_findings names kind p i no_nodes = []
  branch_findings names kind p i (more n ns) =
      findings names (branch_pointer kind p i) n ++ branch_findings names kind p (suc i) ns

-- the findings of a node, if there is one
abbrev pub findings_at : Naming → List ℕ → Option Node → List Finding
findings_at names p None = []
findings_at names p (Some n) = findings names p n
