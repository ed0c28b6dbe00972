-- Trusted by the headline.
-- The errors of rules, and the error beyond the maximum
-- depth (Kubernetes documentation, "Validation rules").
use Rattle.cel_value.specs.Faults.{Fault, undeclared}
use Rattle.cel_value.specs.Texts.{fault_text}
use Rattle.kube_cel_walk.specs.declared.error.ErrorKind.TheVariants.{CompilationFailure, InvalidRule, ValidationFailure, InvalidResult, EvaluationError, UnsupportedReference, SchemaTooDeep}
use Rattle.kube_cel_walk.specs.Errors.{ErrorData}
use Rattle.kube_schema_rules.specs.Visit.{member_path}
use Rattle.kube_schema_rules.specs.Compilation.{Malformed, unread, unread_message, invalid, past_depth}
use Rattle.kube_schema_rules.specs.Rules as schema
use Rattle.std.specs.Prelude.{ℕ, ◌==◌, List, [], ◌++◌, if◌then◌else◌, Option, Some, None, codes, slice_index}

-- the error beyond the maximum depth
unfoldable pub too_deep : List ℕ → ErrorData
too_deep path = record {
  rule = [];
  message = codes "schema nesting exceeds the maximum depth of 64";
  field_path = path;
  reason = None;
  kind = SchemaTooDeep;
  cause = None;
}

-- an invalid rule definition: it has no text
abbrev pub invalid_rule : List ℕ → schema.Fault → ErrorData
invalid_rule path fault = record {
  rule = [];
  message = codes "invalid rule definition: " ++ schema.fault_text fault;
  field_path = path;
  reason = None;
  kind = InvalidRule;
  cause = None;
}

-- a rule whose text or messageExpression doesn't parse as CEL
abbrev pub not_compiled : List ℕ → List ℕ → List ℕ → ErrorData
not_compiled path rule message = record {
  rule = rule;
  message = message;
  field_path = path;
  reason = None;
  kind = CompilationFailure;
  cause = None;
}

abbrev pub unread_rule : List ℕ → List ℕ → ErrorData
unread_rule path rule =
    not_compiled path rule (codes "failed to compile rule \"" ++ (rule ++ codes "\": invalid CEL expression"))

abbrev pub unread_message_rule : List ℕ → List ℕ → List ℕ → ErrorData
unread_message_rule path rule m =
    not_compiled path rule (codes "failed to compile messageExpression \""
    ++ (m ++ (codes "\" for rule \"" ++ (rule ++ codes "\": invalid CEL expression"))))

-- a path followed by a rule's own path: as it stands if it begins with a dot (46), else as a member
abbrev pub joined_path : List ℕ → List ℕ → List ℕ
joined_path path own = if slice_index own 0 == 46 then path ++ own else member_path path own

-- the path of a rule's error
abbrev pub rule_path : List ℕ → Option (List ℕ) → List ℕ
rule_path path None = path
rule_path path (Some own) = joined_path path own

-- a rule that is false, with its reason
abbrev pub failed_rule : List ℕ → schema.Fields → List ℕ → ErrorData
failed_rule path r message = record {
  rule = r.rule;
  message = message;
  field_path = rule_path path r.field_path;
  reason = r.reason;
  kind = ValidationFailure;
  cause = None;
}

abbrev pub no_bool : List ℕ → schema.Fields → ErrorData
no_bool path r = record {
  rule = r.rule;
  message = codes "rule \"" ++ (r.rule ++ codes "\" did not evaluate to bool");
  field_path = rule_path path r.field_path;
  reason = None;
  kind = InvalidResult;
  cause = None;
}

abbrev pub unsupported_reference : List ℕ → schema.Fields → List ℕ → Fault → ErrorData
unsupported_reference path r name fault = record {
  rule = r.rule;
  message = codes "rule references '"
      ++ (name ++ codes "', which this kube-cel build does not support (an unsupported CEL macro, or a feature disabled at compile time); it cannot be evaluated client-side");
  field_path = rule_path path r.field_path;
  reason = None;
  kind = UnsupportedReference;
  cause = Some fault;
}

abbrev pub evaluation_error : List ℕ → schema.Fields → Fault → ErrorData
evaluation_error path r fault = record {
  rule = r.rule;
  message = codes "rule evaluation error: " ++ fault_text fault;
  field_path = rule_path path r.field_path;
  reason = None;
  kind = EvaluationError;
  cause = Some fault;
}

-- the undeclared name, if that is the fault
abbrev pub undeclared_name : Fault → Option (List ℕ)
undeclared_name (undeclared n) = Some n
undeclared_name _ = None

abbrev pub fault_error : List ℕ → schema.Fields → Fault → Option (List ℕ) → ErrorData
fault_error path r fault (Some name) = unsupported_reference path r name fault
fault_error path r fault None = evaluation_error path r fault

-- the error of a malformed rule
abbrev pub malformed_error : List ℕ → Malformed → ErrorData
malformed_error path (unread rule) = unread_rule path rule
malformed_error path (unread_message rule m) = unread_message_rule path rule m
malformed_error path (invalid fault) = invalid_rule path fault
malformed_error path (past_depth n) = too_deep path
