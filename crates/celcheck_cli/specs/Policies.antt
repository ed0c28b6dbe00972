-- Trusted by the clauses of celcheck.
-- The validations of a policy in JSON (Kubernetes API reference, ValidatingAdmissionPolicySpec and
-- Validation).
use Rattle.celcheck_cli.specs.declared.policy.Parts.{Parts}
use Rattle.kube_cel.specs.Validations.{ExpressionData}
use Rattle.serde_json.specs.Data.{Data, null, boolean, number, string, array, object, Items, no_items, item}
use Rattle.serde_json.specs.Find.{get, as_str, as_array}
use Rattle.std.specs.Prelude.{ℕ, List, [], ◌∷◌, Option, Some, None, option_map, option_and_then, codes}

-- a string that may be missing or null; none if the value is something else
abbrev pub text_of : Option Data → Option (Option (List ℕ))
text_of None = Some None
text_of (Some null) = Some None
text_of (Some (boolean b)) = None
text_of (Some (number n)) = None
text_of (Some (string s)) = Some (Some s)
text_of (Some (array ds)) = None
text_of (Some (object ms)) = None

abbrev pub text_at : List ℕ → Data → Option (Option (List ℕ))
text_at key d = text_of (get key d)

-- the fields of one validation; none if the value isn't one
abbrev pub expression_in : Data → Option ExpressionData
expression_in d =
    option_and_then (λ expression. option_and_then (λ message. option_map (λ message_expression.
    record { expression = expression; message = message; message_expression = message_expression })
    (text_at (codes "messageExpression") d))
    (text_at (codes "message") d))
    (option_and_then as_str (get (codes "expression") d))

abbrev pub before : Option ExpressionData → Option (List ExpressionData) → Option (List ExpressionData)
before x xs = option_and_then (λ y. option_map (λ ys. y ∷ ys) xs) x

-- the fields of each validation; none if one of the values isn't one
unfoldable pub expressions_in : Items → Option (List ExpressionData)
expressions_in no_items = Some []
expressions_in (item d ds) = before (expression_in d) (expressions_in ds)

-- the array `spec.validations`
abbrev pub validation_items : Data → Option Items
validation_items d =
    option_and_then as_array (option_and_then (get (codes "validations")) (get (codes "spec") d))

-- the validations of a policy; none if it has another shape
abbrev pub validations_in : Data → Option (List ExpressionData)
validations_in d = option_and_then expressions_in (validation_items d)

-- ---- views of the code's values

abbrev pub parts_view : Parts → ExpressionData
parts_view p = record {
  expression = p.expression.now;
  message = option_map (λ s. s.now) p.message;
  message_expression = option_map (λ s. s.now) p.message_expression;
}
