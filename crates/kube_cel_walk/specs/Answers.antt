-- Trusted by the headline.
-- The errors at all places that a schema and a value share (Kubernetes documentation, "Validation
-- rules": a rule is scoped to the part of the object where its `x-kubernetes-validations` stands).
use Rattle.cel.specs.Book.{Book}
use Rattle.cel.specs.Bindings.{Bindings}
use Rattle.cel_value.specs.Data.{Data}
use Rattle.kube_cel_walk.specs.Errors.{ErrorData}
use Rattle.kube_cel_walk.specs.RuleErrors.{too_deep}
use Rattle.kube_schema_rules.specs.Visit.{Visit, goes, candidates}
use Rattle.kube_schema_rules.specs.Step.{Step}
use Rattle.kube_schema_rules.specs.Walk.{answers, AreFoundAtPlaces, if_some}
use Rattle.kube_cel_walk.specs.Verdicts.{list_of_option, verdict, with_old, with_root}
use Rattle.kube_cel_walk.specs.WalkAccessors.{WalkAccessors}
use Rattle.serde_json.specs.Data.{Data as Json}
use Rattle.std.specs.List.{flat_map}
use Rattle.std.specs.Prelude.{ℕ, ◌==◌, List, [], ◌∷◌, if◌then◌else◌, Option, option_map, codes}

module _ {S : Type 0} (form : WalkAccessors S) where
  -- a JSON value at a place, converted to CEL by the place's node
  abbrev pub bound_at : Visit S → Json → Data
  bound_at s value = form.bound s.depth s.node value

  -- the bindings that all rules at a place share: `self` is the value there
  unfoldable pub place_bindings : Visit S → Bindings
  place_bindings s =
      with_root s.root (with_old (option_map (bound_at s) s.old) ((codes "self", bound_at s s.value) ∷ []))

  -- the verdicts of the node's rules, in order, under these bindings
  unfoldable pub rule_verdicts : Book → Bindings → Visit S → List ErrorData
  rule_verdicts b e s = flat_map (λ r. list_of_option (verdict form b e s r)) (form.rules s.node)

  -- the errors at a place; beyond depth 64 a single error instead of verdicts
  unfoldable pub verdicts : Book → Visit S → List ErrorData
  verdicts b s =
      if s.depth == 65 then too_deep s.path ∷ []
      else (if form.runs_at s.node s.value then rule_verdicts b (place_bindings s) s else [])

  -- the errors from a visit on, within n steps
  unfoldable pub answer : Book → ℕ → Visit S → List ErrorData
  answer b n s = answers (goes form.steps) (candidates form.steps) (verdicts b) n s

  unfoldable pub answer_if_reached : Book → ℕ → Option (Visit S) → List ErrorData
  answer_if_reached b n o = if_some (answer b n) o

  -- the errors found through these steps, with at most n more steps behind each
  unfoldable pub found_through : Book → ℕ → Visit S → List Step → List ErrorData
  found_through b n s steps = flat_map (λ p. answer_if_reached b n (goes form.steps p s)) steps

  -- the errors found through the steps of one kind
  abbrev pub found_by : (Visit S → List Step) → Book → ℕ → Visit S → List ErrorData
  found_by steps b n s = found_through b n s (steps s)

  -- the errors at all places of at most 65 steps, concatenated in the order of the places
  unfoldable pub IsAnswer : Book → Visit S → List ErrorData → Type 0
  IsAnswer b root found = AreFoundAtPlaces (goes form.steps) (verdicts b) 65 root found
