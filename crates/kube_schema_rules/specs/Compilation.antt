-- Trusted by the headline.
-- Which rules compile (Kubernetes API reference, ValidationRule of
-- CustomResourceDefinition): a rule is malformed if its fields have a fault, if its text
-- doesn't derive a tree by the CEL grammar, or if it has a messageExpression that doesn't.
use Rattle.std.specs.Prelude.{ℕ, List, [], ◌∷◌, ◌++◌, Bool, Option, option_map, Result, Ok, Err, codes, decimal, string_bytes}
use Rattle.serde_json.specs.Data.{Data, Items, no_items, item}
use Rattle.cel_syntax.specs.Reading.{tree_of}
use Rattle.cel_syntax.specs.Term.{Term}
use Rattle.cel_syntax.specs.FreeNames.{is_free}
use Rattle.cel.specs.Checks as check
use Rattle.cel.specs.Checks.{Trees, Unread, check_view, trees_of}
use Rattle.cel.specs.Program.{program_term}
use Rattle.cel.specs.declared.check.Check.{Check}
use Rattle.kube_schema_rules.specs.Rules.{Fields, Fault, fault_text, fault_view, rule_of, rule_view, ◌>>=◌}
use Rattle.kube_schema_rules.specs.declared.result.CompilationResult.{CompilationResult}
use Rattle.kube_schema_rules.specs.declared.compilation.CompilationError.{CompilationError}
use Rattle.kube_schema_rules.specs.declared.compilation.CompilationError.TheVariants as error

-- a rule, the tree of its text, whether `oldSelf` is a free name of
-- its text, and the tree of its messageExpression, if it has one
pub record Compiled : Type 0 where
  pub fields : Fields
  pub tree : Term
  pub is_transition : Bool
  pub message_tree : Option Term

-- why a rule is malformed
pub data Malformed : Type 0 where
  -- the text of the rule derives no tree
  unread : List ℕ → Malformed
  -- the messageExpression, behind the text of the rule, derives no tree
  unread_message : List ℕ → List ℕ → Malformed
  invalid : Fault → Malformed
  -- the node lies past the maximum depth, at this depth;
  -- no rule that is parsed from JSON has this fault
  past_depth : ℕ → Malformed

-- why a rule with such a text is malformed
abbrev pub unread_in : Fields → Unread → Malformed
unread_in fields check.unread = unread fields.rule
unread_in fields (check.unread_message m) = unread_message fields.rule m

abbrev pub trees_in : Fields → Result Trees Unread → Result Trees Malformed
trees_in fields (Ok trees) = Ok trees
trees_in fields (Err u) = Err (unread_in fields u)

abbrev pub with_trees : Fields → Trees → Compiled
with_trees fields trees = record {
  fields = fields;
  tree = trees.tree;
  is_transition = is_free (codes "oldSelf") trees.tree;
  message_tree = trees.message_tree;
}

-- the text first, then the messageExpression; `reads` gives the tree of a text, if it has one
unfoldable pub compile_result_by : (List ℕ → Option Term) → Fields → Result Compiled Malformed
compile_result_by reads fields = do
  trees ← trees_in fields (trees_of reads fields.rule fields.message_expression)
  Ok (with_trees fields trees)

-- `compile` says how a rule is compiled
module _ (compile : Fields → Result Compiled Malformed) where
  abbrev pub compiled_of_by : Result Fields Fault → Result Compiled Malformed
  compiled_of_by (Ok fields) = compile fields
  compiled_of_by (Err f) = Err (invalid f)

  -- the compiled rule in a JSON value, or the reason why there is none
  unfoldable pub compiled_rule_by : Data → Result Compiled Malformed
  compiled_rule_by d = compiled_of_by (rule_of d)

  -- the rules of a node, each compiled
  unfoldable pub compiled_rules_by : Items → List (Result Compiled Malformed)
  compiled_rules_by no_items = []
  compiled_rules_by (item d ds) = compiled_rule_by d ∷ compiled_rules_by ds

-- the same by the grammar of CEL
abbrev pub compile_result : Fields → Result Compiled Malformed
compile_result = compile_result_by tree_of

abbrev pub compiled_rule : Data → Result Compiled Malformed
compiled_rule = compiled_rule_by compile_result

abbrev pub compiled_rules : Items → List (Result Compiled Malformed)
compiled_rules = compiled_rules_by compile_result

abbrev pub error_text : Malformed → List ℕ
error_text (unread rule) =
    codes "failed to compile CEL rule \"" ++ (rule ++ codes "\": invalid CEL expression")
error_text (unread_message rule m) =
    codes "failed to compile messageExpression \""
    ++ (m ++ (codes "\" for rule \"" ++ (rule ++ codes "\": invalid CEL expression")))
error_text (invalid f) = codes "invalid rule definition: " ++ fault_text f
error_text (past_depth n) = codes "schema nesting depth " ++ (decimal n ++ codes " exceeds the maximum of 64")

-- ---- views of the code's values

abbrev pub error_view : CompilationError → Malformed
error_view (error.Parse rule source) = unread (string_bytes rule)
error_view (error.MessageExpressionParse rule m source) = unread_message (string_bytes rule) (string_bytes m)
error_view (error.InvalidRule f) = invalid (fault_view f)
error_view (error.SchemaTooDeep n) = past_depth n

abbrev pub result_view : CompilationResult → Compiled
result_view r = record {
  fields = rule_view r.rule;
  tree = program_term r.program;
  is_transition = r.is_transition_rule;
  message_tree = option_map program_term r.message_program;
}

abbrev pub compiled_seen : Result CompilationResult CompilationError → Result Compiled Malformed
compiled_seen (Ok r) = Ok (result_view r)
compiled_seen (Err e) = Err (error_view e)

abbrev pub check_seen : Result Check CompilationError → Result Trees Malformed
check_seen (Ok c) = Ok (check_view c)
check_seen (Err e) = Err (error_view e)
