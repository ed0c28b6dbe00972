-- Trusted by the clauses of analysis and linter.
-- The names that a rule may use where it runs (Kubernetes documentation,
-- "Validation rules" for schemas and "Validating Admission Policy" for policies).
use Rattle.std.specs.Prelude.{◌≡◌, ℕ, List, [], ◌∷◌, ◌++◌, codes, Bool, Option, Some, None, map, if◌then◌else◌}
use Rattle.std.specs.List.{list_any}
use Rattle.std.specs.Str.{bytes_eq}
use Rattle.cel_syntax.specs.Names.{AreNames}
use Rattle.cel_syntax.specs.FreeNames.{is_free}
use Rattle.cel_syntax.specs.Term.{Term}
use Rattle.kube_cel_analysis.specs.declared.scope.ScopeContext.{ScopeContext}
use Rattle.kube_cel_analysis.specs.declared.scope.ScopeContext.TheVariants.{CrdValidation, AdmissionPolicy}
use Rattle.kube_cel_analysis.specs.declared.warning.WarningKind.TheVariants.{WrongScope}
use Rattle.kube_cel_analysis.specs.Warnings.{Remark, Warning, warning}

abbrev pub scope_name : ScopeContext → List ℕ
scope_name CrdValidation = codes "CrdValidation"
scope_name AdmissionPolicy = codes "AdmissionPolicy"

-- the names that are available
abbrev pub variables : ScopeContext → List (List ℕ)
variables CrdValidation =
    codes "self" ∷ codes "oldSelf" ∷ codes "apiVersion" ∷ codes "apiGroup" ∷ codes "kind" ∷ []
variables AdmissionPolicy =
    codes "self" ∷ codes "oldSelf" ∷ codes "object" ∷ codes "oldObject"
    ∷ codes "request" ∷ codes "params" ∷ codes "namespaceObject"
    ∷ codes "authorizer" ∷ codes "variables" ∷ []

-- the same names, in the form in which a warning lists them
abbrev pub valid_variables : ScopeContext → List ℕ
valid_variables CrdValidation = codes "[\"self\", \"oldSelf\", \"apiVersion\", \"apiGroup\", \"kind\"]"
valid_variables AdmissionPolicy =
    codes "[\"self\", \"oldSelf\", \"object\", \"oldObject\", \"request\", \"params\", \"namespaceObject\", \"authorizer\", \"variables\"]"

unfoldable pub is_available : ScopeContext → List ℕ → Bool
is_available scope name = list_any (bytes_eq name) (variables scope)

abbrev pub scope_remark : ScopeContext → List ℕ → Remark
scope_remark scope name = record {
  message = codes "variable '"
      ++ (name ++ (codes "' is not available in "
      ++ (scope_name scope ++ (codes " context; valid variables: " ++ valid_variables scope))));
  kind = WrongScope;
}

-- what is said of one name
abbrev pub name_remarks : ScopeContext → List ℕ → List Remark
name_remarks scope name = if is_available scope name then [] else scope_remark scope name ∷ []

-- what is said of these names, in order
abbrev pub names_remarks : ScopeContext → List (List ℕ) → List Remark
names_remarks scope [] = []
names_remarks scope (n ∷ ns) = name_remarks scope n ++ names_remarks scope ns

-- the list is exactly what is said of a tree's names: one remark for each
-- free name that isn't available, in the order of names
abbrev pub AreScopeRemarks : ScopeContext → Term → List Remark → Type 0
AreScopeRemarks scope t found =
    (names : List (List ℕ)) × AreNames names (λ x. is_free x t) × (found ≡ names_remarks scope names)

-- the list is exactly the warnings of a text: those of the names of its tree
abbrev pub AreScopeWarnings : ScopeContext → List ℕ → Option Term → List Warning → Type 0
AreScopeWarnings scope rule None found = found ≡ []
AreScopeWarnings scope rule (Some t) found =
    (remarks : List Remark) × AreScopeRemarks scope t remarks × (found ≡ map (warning rule) remarks)
