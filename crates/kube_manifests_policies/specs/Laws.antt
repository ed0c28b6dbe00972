-- Trusted by laws alone.
-- Policies that have validations only, and verdicts of policies whose expressions were all
-- evaluated.
use Rattle.cel.specs.Bindings.{binding}
use Rattle.cel.specs.Members.{selection}
use Rattle.cel_syntax.specs.Reading.{tree_of}
use Rattle.cel_syntax.specs.Term.{Term}
use Rattle.cel_value.specs.Data.{Entries, map_of, text_key}
use Rattle.kube_manifests_documents.specs.Policies.{ItemData, PolicyData}
use Rattle.kube_manifests_policies.specs.Scopes.{ScopeData, why_not}
use Rattle.kube_manifests_names.specs.Uses.{asks}
use Rattle.kube_manifests_policies.specs.Verdicts.{Labelled, ItemReportData, VerdictData, any_is, erred, fails, holds, not_compiled, not_given, nothing, says}
use Rattle.kube_manifests_policies.specs.declared.verdict.Problem.TheVariants as problem
use Rattle.std.specs.Prelude.{◌≡◌, ◌⊎◌, ℕ, List, [], ◌∷◌, ◌++◌, Bool, true, false, Some, None, codes}

-- the policy with these validations and nothing else
abbrev pub of_validations : Bool → Bool → List ItemData → PolicyData
of_validations ignores params xs = record {
  ignores = ignores;
  has_params = params;
  conditions = [];
  variables = [];
  validations = xs;
  annotations = [];
}

-- the validation is labelled with its expression, and nothing keeps its expression from being evaluated
pub record IsJudgedIn (s : ScopeData) (x : ItemData) : Type 0 where
  pub label : x.label ≡ x.expression
  pub tree : (t : Term) → tree_of x.expression ≡ Some t → why_not s t ≡ None

abbrev pub is_true : ItemReportData → Bool
is_true holds = true
is_true (fails m) = false
is_true (says s) = false
is_true nothing = false
is_true (erred m) = false
is_true (not_given i) = false
is_true (not_compiled m) = false

-- the expression of a validation, and whether it is true
abbrev pub passed_result : Labelled → List ℕ × Bool
passed_result r = (r.label, is_true r.reported)

-- none of these reads an input that isn't given, and none is refused
pub record AreJudged (rs : List Labelled) : Type 0 where
  pub given : any_is problem.NotGiven rs ≡ false
  pub compiled : any_is problem.Refused rs ≡ false

-- no match condition, validation or audit annotation reads an input that isn't given, none of them is refused, and no
-- validation is false
pub record IsJudged (v : VerdictData) : Type 0 where
  pub conditions : AreJudged v.conditions
  pub validations : AreJudged v.validations
  pub annotations : AreJudged v.annotations
  pub none_false : any_is problem.False v.validations ≡ false

-- ---- variables that don't read each other

-- `variables` is a map
pub record HasVariables (s : ScopeData) : Type 0 where
  pub entries : Entries
  pub values : s.values ≡ map_of entries
  pub bound : binding (codes "variables") s.bindings ≡ Some s.values

-- the expression of x doesn't read the variable y
abbrev pub IsApartFrom : ItemData → ItemData → Type 0
IsApartFrom y x =
    (t : Term) (selects : Bool) → tree_of x.expression ≡ Some t
    → asks (codes "variables") y.label selects t ≡ false

-- the lists are equal, but for the order of their last two entries
abbrev pub AreTurned : List Labelled → List Labelled → Type 0
AreTurned rs qs =
    (before : List Labelled) × (p : Labelled) × (q : Labelled)
    × (rs ≡ before ++ p ∷ q ∷ []) × (qs ≡ before ++ q ∷ p ∷ [])

-- each variable has the same value, or none; those without a value are in the same order, except
-- possibly the last two
pub record SameVariables (s t : ScopeData) : Type 0 where
  pub values : (name : List ℕ) → selection (text_key name) s.values ≡ selection (text_key name) t.values
  pub missing : (s.missing ≡ t.missing) ⊎ AreTurned s.missing t.missing
