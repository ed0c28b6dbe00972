-- Trusted by the clauses of analysis and linter.
-- The warnings of a rule's cost at a node of a schema (Kubernetes documentation,
-- "Resource use by validation functions"), and all warnings of the rule.
use Rattle.std.specs.Prelude.{◌≡◌, ℕ, List, [], ◌∷◌, ◌++◌, Bool, true, false, ◌&&◌, Option, Some, None, map, if◌then◌else◌, codes, decimal, nat_lt}
use Rattle.cel_syntax.specs.Term.{Term, macro}
use Rattle.kube_cel_analysis.specs.Cost.{cost}
use Rattle.kube_cel_analysis.specs.Scopes.{AreScopeRemarks}
use Rattle.kube_cel_analysis.specs.Warnings.{Remark, Warning, warning}
use Rattle.kube_cel_analysis.specs.declared.scope.ScopeContext.{ScopeContext}
use Rattle.kube_cel_analysis.specs.declared.warning.WarningKind.TheVariants.{CostExceeded, MissingBounds}
use Rattle.kube_cel_analysis.specs.Bounds.{sizes_of, has_unbounded}
use Rattle.kube_schema.specs.Tree.{Node, named_of}

abbrev pub cost_remark : ℕ → Remark
cost_remark c = record {
  message = codes "estimated cost "
      ++ (decimal c
      ++ codes " exceeds K8s budget 1000000; consider adding maxItems/maxLength to schema bounds");
  kind = CostExceeded;
}

abbrev pub bounds_remark : Remark
bounds_remark = record {
  message = codes "list field has no maxItems bound; cost estimate uses worst-case default";
  kind = MissingBounds;
}

-- the budget of a rule is a million
abbrev pub cost_remarks : ℕ → List Remark
cost_remarks c = if nat_lt 1000000 c then cost_remark c ∷ [] else []

-- the expression as a whole is a macro over a list; `has` isn't one
abbrev pub is_macro : Term → Bool
is_macro (macro k r x f b) = true
is_macro _ = false

abbrev pub bounds_remarks : Node → Term → List Remark
bounds_remarks n t = if is_macro t && has_unbounded (named_of n) then bounds_remark ∷ [] else []

-- what is said of the cost, then of the bounds, of a rule with this tree
unfoldable pub estimates : Node → Term → List Remark
estimates n t = cost_remarks (cost (sizes_of n) t) ++ bounds_remarks n t

-- a text without a tree gives no warnings
abbrev pub text_estimates : List ℕ → Node → Option Term → List Warning
text_estimates rule n None = []
text_estimates rule n (Some t) = map (warning rule) (estimates n t)

-- the list is exactly what is said of a tree: of its names, then of its cost, then of its bounds
abbrev pub AreRemarks : ScopeContext → Node → Term → List Remark → Type 0
AreRemarks scope n t found =
    (reported : List Remark) × AreScopeRemarks scope t reported × (found ≡ reported ++ estimates n t)

-- the list is exactly all warnings of a text
abbrev pub AreWarnings : ScopeContext → List ℕ → Node → Option Term → List Warning → Type 0
AreWarnings scope rule n None found = found ≡ []
AreWarnings scope rule n (Some t) found =
    (remarks : List Remark) × AreRemarks scope n t remarks × (found ≡ map (warning rule) remarks)
