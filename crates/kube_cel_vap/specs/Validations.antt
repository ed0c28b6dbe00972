-- Trusted by the clauses of policies.
-- The validations of a policy and their results (Kubernetes
-- API reference, Validation of ValidatingAdmissionPolicySpec).
use Rattle.kube_cel_vap.specs.declared.expression.VapExpression.{VapExpression}
use Rattle.kube_cel_vap.specs.declared.expression.VapResult.{VapResult}
use Rattle.std.specs.Prelude.{ℕ, List, Bool, Option, option_map, string_bytes}

-- a validation of a policy
pub record ExpressionData : Type 0 where
  pub expression : List ℕ
  pub message : Option (List ℕ)
  pub message_expression : Option (List ℕ)

-- the result of one expression
pub record ResultData : Type 0 where
  pub expression : List ℕ
  pub passed : Bool
  pub message : Option (List ℕ)

-- ---- views of the code's values

abbrev pub expression_view : VapExpression → ExpressionData
expression_view x = record {
  expression = string_bytes x.expression;
  message = option_map string_bytes x.message;
  message_expression = option_map string_bytes x.message_expression;
}

abbrev pub result_view : VapResult → ResultData
result_view r = record {
  expression = string_bytes r.expression;
  passed = r.passed;
  message = option_map string_bytes r.message;
}
