-- Trusted by the headline.
-- Which rule a JSON value holds, or its first fault (Kubernetes
-- API reference, ValidationRule of CustomResourceDefinition).
use Rattle.std.specs.Prelude.{ℕ, List, ◌++◌, Bool, Option, Some, None, option_map, option_and_then, unwrap_or, Result, Ok, Err, codes, string_bytes, is_some, if◌then◌else◌}
use Rattle.serde_json.specs.Data.{Data, null, boolean, number, string, array, object, Items, no_items}
use Rattle.serde_json.specs.Find.{get, as_str, as_array, as_object}
use Rattle.kube_schema_rules.specs.declared.rule.RuleFault.{RuleFault}
use Rattle.kube_schema_rules.specs.declared.rule.RuleFault.TheVariants as fault
use Rattle.kube_schema_rules.specs.declared.rule.Rule.{Rule}
use Rattle.kube_schema_rules.specs.declared.rule.Parts.{Parts}

-- the reason why a value isn't a rule; fields are named
pub data Fault : Type 0 where
  not_object : Fault
  rule_not_string : Fault
  not_string_or_null : List ℕ → Fault
  -- for `optionalOldSelf`, the only bool
  not_bool_or_null : Fault

-- the fields of a rule
pub record Fields : Type 0 where
  pub rule : List ℕ
  pub message : Option (List ℕ)
  pub message_expression : Option (List ℕ)
  pub reason : Option (List ℕ)
  pub field_path : Option (List ℕ)
  pub optional_old_self : Option Bool

abbrev pub fault_text : Fault → List ℕ
fault_text not_object = codes "a rule must be an object"
fault_text rule_not_string = codes "field `rule` must be a string"
fault_text (not_string_or_null name) = codes "field `" ++ (name ++ codes "` must be a string or null")
fault_text not_bool_or_null = codes "field `optionalOldSelf` must be a bool or null"

infixl 10 ◌>>=◌
abbrev pub ◌>>=◌ : {A B E : Type 0} → Result A E → (A → Result B E) → Result B E
Ok a >>= f = f a
Err e >>= f = Err e

-- a string that may be missing or null
abbrev pub text_of : List ℕ → Option Data → Result (Option (List ℕ)) Fault
text_of name None = Ok None
text_of name (Some null) = Ok None
text_of name (Some (boolean b)) = Err (not_string_or_null name)
text_of name (Some (number n)) = Err (not_string_or_null name)
text_of name (Some (string s)) = Ok (Some s)
text_of name (Some (array ds)) = Err (not_string_or_null name)
text_of name (Some (object ms)) = Err (not_string_or_null name)

abbrev pub text_at : List ℕ → Data → Result (Option (List ℕ)) Fault
text_at name d = text_of name (get name d)

-- a bool that may be missing or null
abbrev pub bool_of : Option Data → Result (Option Bool) Fault
bool_of None = Ok None
bool_of (Some null) = Ok None
bool_of (Some (boolean b)) = Ok (Some b)
bool_of (Some (number n)) = Err not_bool_or_null
bool_of (Some (string s)) = Err not_bool_or_null
bool_of (Some (array ds)) = Err not_bool_or_null
bool_of (Some (object ms)) = Err not_bool_or_null

abbrev pub bool_at : List ℕ → Data → Result (Option Bool) Fault
bool_at name d = bool_of (get name d)

abbrev pub required_text : Option (List ℕ) → Result (List ℕ) Fault
required_text (Some s) = Ok s
required_text None = Err rule_not_string

-- the fields of a rule, or the first fault among them
unfoldable pub fields_of : Data → Result Fields Fault
fields_of d = do
  rule ← required_text (option_and_then as_str (get (codes "rule") d))
  message ← text_at (codes "message") d
  message_expression ← text_at (codes "messageExpression") d
  reason ← text_at (codes "reason") d
  field_path ← text_at (codes "fieldPath") d
  optional_old_self ← bool_at (codes "optionalOldSelf") d
  Ok (record {
    rule = rule;
    message = message;
    message_expression = message_expression;
    reason = reason;
    field_path = field_path;
    optional_old_self = optional_old_self;
  })

-- the rule in a value, or its first fault
unfoldable pub rule_of : Data → Result Fields Fault
rule_of d = if is_some (as_object d) then fields_of d else Err not_object

-- the rules of a node
unfoldable pub rule_items : Data → Items
rule_items schema =
    unwrap_or (option_and_then as_array (get (codes "x-kubernetes-validations") schema)) no_items

-- ---- views of the code's values

abbrev pub fault_view : RuleFault → Fault
fault_view fault.NotObject = not_object
fault_view fault.RuleNotString = rule_not_string
fault_view (fault.NotStringOrNull name) = not_string_or_null name.now
fault_view fault.NotBoolOrNull = not_bool_or_null

abbrev pub rule_view : Rule → Fields
rule_view r = record {
  rule = string_bytes r.rule;
  message = option_map string_bytes r.message;
  message_expression = option_map string_bytes r.message_expression;
  reason = option_map string_bytes r.reason;
  field_path = option_map string_bytes r.field_path;
  optional_old_self = r.optional_old_self;
}

abbrev pub parts_view : Parts → Fields
parts_view p = record {
  rule = p.rule.now;
  message = option_map (λ s. s.now) p.message;
  message_expression = option_map (λ s. s.now) p.message_expression;
  reason = option_map (λ s. s.now) p.reason;
  field_path = option_map (λ s. s.now) p.field_path;
  optional_old_self = p.optional_old_self;
}

-- the view of what was parsed, or of the fault
abbrev pub reading_view : {A B : Type 0} → (A → B) → Result A RuleFault → Result B Fault
reading_view f (Ok a) = Ok (f a)
reading_view f (Err e) = Err (fault_view e)
