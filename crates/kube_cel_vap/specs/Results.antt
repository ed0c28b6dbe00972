-- Trusted by the clauses of policies.
-- The results of a policy's expressions (Kubernetes documentation, "Validating Admission
-- Policy"; Kubernetes API reference, Validation of ValidatingAdmissionPolicySpec).
use Rattle.cel.specs.Checks.{JudgementData, errs, fails, false_message, holds, judgement, not_bool}
use Rattle.cel.specs.Book.{Book}
use Rattle.cel.specs.Bindings.{Bindings}
use Rattle.cel.specs.Library.{Library}
use Rattle.cel.specs.Meaning.{meaning}
use Rattle.cel.specs.Outcome.{Outcome}
use Rattle.cel_syntax.specs.Term.{Term}
use Rattle.cel_value.specs.Kinds.{kind_name}
use Rattle.cel_value.specs.Texts.{fault_text}
use Rattle.kube_cel_vap.specs.Validations.{ExpressionData, ResultData}
use Rattle.kube_cel_vap.specs.Expressions.{Compiled, Unread, compile_result, unread_text}
use Rattle.kube_cel_vap.specs.Variables.{Variables, policy_bindings}
use Rattle.kube_functions.specs.Kube.{all_library}
use Rattle.std.specs.Prelude.{ℕ, List, ◌++◌, map, codes, Option, Some, None, is_none, option_map, unwrap_or, Result, Ok, Err}

-- the functions that the expressions of a policy may call: all of Kubernetes
abbrev pub policy_library : Library
policy_library = all_library

-- the meaning of an expression under these bindings
unfoldable pub outcome_in : Book → Bindings → Term → Outcome
outcome_in b e t = meaning policy_library b t e

-- the expression's own message, or one made of its text
abbrev pub own_message : Compiled → List ℕ
own_message c =
    unwrap_or c.message (codes "validation expression '" ++ (c.expression ++ codes "' evaluated to false"))

-- the message of an expression by what it is judged to be: none if it is true
abbrev pub judged_message : Compiled → JudgementData Outcome → Option (List ℕ)
judged_message c holds = None
judged_message c (fails evaluated) = Some (false_message (own_message c) evaluated)
judged_message c (not_bool k) = Some (codes "expression returned non-boolean: " ++ kind_name k)
judged_message c (errs e) = Some (codes "evaluation error: " ++ fault_text e)

-- the message of an expression under these bindings
unfoldable pub message_in : Book → Bindings → Compiled → Option (List ℕ)
message_in b e c =
    judged_message c (judgement (option_map (outcome_in b e) c.trees.message_tree) (outcome_in b e c.trees.tree))

-- an expression passes exactly if it has no message
abbrev pub result_with : List ℕ → Option (List ℕ) → ResultData
result_with expression message = record {
  expression = expression;
  passed = is_none message;
  message = message;
}

-- the result of an expression that was compiled, under these bindings
abbrev pub compiled_result : Book → Bindings → Result Compiled Unread → ResultData
compiled_result b e (Err u) = result_with u.original (Some (unread_text u))
compiled_result b e (Ok c) = result_with c.expression (message_in b e c)

-- one result for each, in order
unfoldable pub compiled_results : Book → Variables → List (Result Compiled Unread) → List ResultData
compiled_results b v cs = map (compiled_result b (policy_bindings v)) cs

-- the result of an expression
unfoldable pub result_in : Book → Variables → ExpressionData → ResultData
result_in b v x = compiled_result b (policy_bindings v) (compile_result x)

-- the results of a policy's expressions: one for each, in order
unfoldable pub policy_results : Book → Variables → List ExpressionData → List ResultData
policy_results b v xs = map (result_in b v) xs
