-- Trusted by the headline.
-- The verdict of a rule whose names are bound (Kubernetes documentation, "Validation rules").
use Rattle.cel.specs.Checks.{JudgementData, errs, fails, false_message, holds, judgement, not_bool}
use Rattle.cel.specs.Book.{Book}
use Rattle.cel.specs.Bindings.{Bindings}
use Rattle.cel.specs.Library.{Library}
use Rattle.cel.specs.Meaning.{meaning}
use Rattle.cel.specs.Outcome.{Outcome}
use Rattle.cel_syntax.specs.Term.{Term}
use Rattle.cel_value.specs.Data.{Data, text}
use Rattle.kube_cel_walk.specs.Errors.{ErrorData}
use Rattle.kube_cel_walk.specs.RuleErrors.{failed_rule, no_bool, fault_error, undeclared_name, malformed_error}
use Rattle.kube_cel_walk.specs.WalkAccessors.{WalkAccessors}
use Rattle.kube_schema_rules.specs.Visit.{Root, Visit}
use Rattle.kube_schema_rules.specs.Compilation.{Compiled, Malformed}
use Rattle.kube_schema_rules.specs.Rules as schema
use Rattle.serde_json.specs.Data.{Data as Json}
use Rattle.std.specs.Prelude.{ℕ, List, [], ◌∷◌, ◌++◌, Bool, true, false, not, ◌&&◌, ◌||◌, if◌then◌else◌, Option, Some, None, is_some, option_map, unwrap_or, Result, Ok, Err, codes}

-- a list of at most one element
abbrev pub list_of_option : {A : Type 0} → Option A → List A
list_of_option None = []
list_of_option (Some a) = a ∷ []

-- the rule's own message, or one made of its text
abbrev pub own_message : schema.Fields → List ℕ
own_message r = unwrap_or r.message (codes "failed rule: " ++ r.rule)

-- the error of a rule by what it is judged to be: none if it is true; one with its message if it is
-- false; one for a value that isn't a bool, for an undeclared name, and for any other fault
abbrev pub judged_error : List ℕ → schema.Fields → JudgementData Outcome → Option ErrorData
judged_error path r holds = None
judged_error path r (fails evaluated) = Some (failed_rule path r (false_message (own_message r) evaluated))
judged_error path r (not_bool k) = Some (no_bool path r)
judged_error path r (errs e) = Some (fault_error path r e (undeclared_name e))

-- binds `oldSelf` to the old counterpart, if there is one
abbrev pub with_old : Option Data → Bindings → Bindings
with_old None e = e
with_old (Some old) e = (codes "oldSelf", old) ∷ e

-- binds the names of the root context, if there is one
abbrev pub with_root : Option Root → Bindings → Bindings
with_root None e = e
with_root (Some r) e =
    (codes "kind", text r.kind) ∷ (codes "apiGroup", text r.api_group)
    ∷ (codes "apiVersion", text r.api_version) ∷ e

-- the rule sets `optionalOldSelf`
abbrev pub is_old_optional : schema.Fields → Bool
is_old_optional r = unwrap_or r.optional_old_self false

-- a transition rule applies if there is an old counterpart, or if it sets `optionalOldSelf`
abbrev pub is_applicable : Option Json → Compiled → Bool
is_applicable old c = not c.is_transition || (is_some old || is_old_optional c.fields)

-- the meaning of an expression with these functions
unfoldable pub outcome_in : Library → Book → Bindings → Term → Outcome
outcome_in library b e t = meaning library b t e

-- the error of a rule under these bindings; none if the rule is true
unfoldable pub bound_verdict : Library → Book → Bindings → List ℕ → Compiled → Option ErrorData
bound_verdict library b e path c =
    judged_error path c.fields
    (judgement (option_map (outcome_in library b e) c.message_tree) (outcome_in library b e c.tree))

module _ {S : Type 0} (form : WalkAccessors S) where
  -- what `oldSelf` is bound to at a visit in a rule that sets `optionalOldSelf`
  unfoldable pub optional_old_at : Visit S → Option Data
  optional_old_at s = form.optional_old s.depth s.node s.old

  -- the bindings of a rule, by those that all rules at the visit share
  abbrev pub rule_bindings : Bindings → Visit S → schema.Fields → Bindings
  rule_bindings e s r = if is_old_optional r then with_old (optional_old_at s) e else e

  -- the verdict of a compiled rule: none if it isn't applicable or is true
  abbrev pub compiled_verdict : Book → Bindings → Visit S → Compiled → Option ErrorData
  compiled_verdict b e s c =
      if is_applicable s.old c then bound_verdict form.library b (rule_bindings e s c.fields) s.path c else None

  -- the verdict of one rule: at most one error. A malformed rule is an error wherever rules are run
  unfoldable pub verdict : Book → Bindings → Visit S → Result Compiled Malformed → Option ErrorData
  verdict b e s (Err m) = Some (malformed_error s.path m)
  verdict b e s (Ok c) = compiled_verdict b e s c
