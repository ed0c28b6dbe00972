-- Trusted by the clauses of policies.
-- The expressions of a policy and their trees (Kubernetes API reference, Validation of
-- ValidatingAdmissionPolicySpec).
use Rattle.cel.specs.Checks.{Trees, Unread as Failing, check_view, trees_of, unread_in}
use Rattle.cel_syntax.specs.Reading.{tree_of}
use Rattle.kube_cel_vap.specs.Validations.{ExpressionData}
use Rattle.kube_cel_vap.specs.declared.compilation.CompiledVapExpression.{CompiledVapExpression}
use Rattle.kube_cel_vap.specs.declared.compilation.VapError.{VapError}
use Rattle.std.specs.Prelude.{ℕ, List, ◌++◌, codes, Option, option_map, Result, Ok, Err, string_bytes}

-- an expression with its own message and the trees of its texts
pub record Compiled : Type 0 where
  pub expression : List ℕ
  pub message : Option (List ℕ)
  pub trees : Trees

-- a text that derives no tree, and the expression that it belongs to
pub record Unread : Type 0 where
  pub text : List ℕ
  pub original : List ℕ

abbrev pub with_trees : ExpressionData → Trees → Compiled
with_trees x trees = record { expression = x.expression; message = x.message; trees = trees }

abbrev pub without_tree : ExpressionData → Failing → Unread
without_tree x u = record { text = unread_in x.expression u; original = x.expression }

abbrev pub compiled_of : ExpressionData → Result Trees Failing → Result Compiled Unread
compiled_of x (Ok trees) = Ok (with_trees x trees)
compiled_of x (Err u) = Err (without_tree x u)

-- the trees of an expression, or the first of its texts that derives none
unfoldable pub compile_result : ExpressionData → Result Compiled Unread
compile_result x = compiled_of x (trees_of tree_of x.expression x.message_expression)

abbrev pub unread_text : Unread → List ℕ
unread_text u = codes "failed to compile VAP expression \"" ++ (u.text ++ codes "\": invalid CEL expression")

-- ---- views of the code's values

abbrev pub compiled_view : CompiledVapExpression → Compiled
compiled_view c = record {
  expression = string_bytes c.expression;
  message = option_map string_bytes c.message;
  trees = check_view c.check;
}

abbrev pub error_view : VapError → Unread
error_view e = record { text = string_bytes e.expression; original = string_bytes e.original }

abbrev pub compiled_seen : Result CompiledVapExpression VapError → Result Compiled Unread
compiled_seen (Ok c) = Ok (compiled_view c)
compiled_seen (Err e) = Err (error_view e)
