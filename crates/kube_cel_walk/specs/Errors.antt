-- Trusted by the headline.
-- A validation error as plain data.
use Rattle.cel_value.specs.Faults.{Fault, fault_view}
use Rattle.kube_cel_walk.specs.declared.error.ErrorKind.{ErrorKind}
use Rattle.kube_cel_walk.specs.declared.error.ValidationError.{ValidationError}
use Rattle.std.specs.Prelude.{◌≡◌, ℕ, List, Option, option_map, string_bytes}

pub record ErrorData : Type 0 where
  pub rule : List ℕ
  pub message : List ℕ
  pub field_path : List ℕ
  pub reason : Option (List ℕ)
  pub kind : ErrorKind
  -- the error of the evaluation, if that failed
  pub cause : Option Fault

abbrev pub error_view : ValidationError → ErrorData
error_view e = record {
  rule = string_bytes e.rule;
  message = string_bytes e.message;
  field_path = string_bytes e.field_path;
  reason = option_map string_bytes e.reason;
  kind = e.kind;
  cause = option_map fault_view e.cause;
}

-- what `==` compares: all fields but the cause
pub record SameFields (a b : ErrorData) : Type 0 where
  pub rule : a.rule ≡ b.rule
  pub message : a.message ≡ b.message
  pub field_path : a.field_path ≡ b.field_path
  pub reason : a.reason ≡ b.reason
  pub kind : a.kind ≡ b.kind
