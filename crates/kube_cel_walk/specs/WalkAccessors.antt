-- Trusted by the headline.
-- What definitions ask of the nodes of a schema, and what a reading of rules decides beside the schema (Kubernetes
-- documentation, "Validation rules" and "Transition rules"). Readings differ, as kube-cel and an API server do.
use Rattle.cel.specs.Library.{Library}
use Rattle.cel_value.specs.Data.{Data}
use Rattle.kube_schema_rules.specs.StepAccessors.{StepAccessors}
use Rattle.kube_schema_rules.specs.Compilation.{Compiled, Malformed}
use Rattle.serde_json.specs.Data.{Data as Json}
use Rattle.std.specs.Prelude.{ℕ, List, Bool, Option, Result}

pub record WalkAccessors (S : Type 0) : Type 0 where
  -- for the steps to further places
  pub steps : StepAccessors S
  -- a JSON value, converted to CEL by a node at this number of steps from the root
  pub bound : ℕ → S → Json → Data
  -- the rules of a node, in order, each compiled or malformed
  pub rules : S → List (Result Compiled Malformed)
  -- whether the rules of a node are run at a value
  pub runs_at : S → Json → Bool
  -- what `oldSelf` is bound to in a rule that sets `optionalOldSelf`, by the old counterpart, at a node at
  -- this number of steps from the root; none if it is bound as in other rules
  pub optional_old : ℕ → S → Option Json → Option Data
  -- the functions that rules may call
  pub library : Library
