-- Trusted by the headline.
-- Checks: expressions that have to be true, each of which may have another for the message if it is false (Kubernetes API
-- reference, ValidationRule of CustomResourceDefinition, and Validation of ValidatingAdmissionPolicySpec).
use Rattle.cel.specs.Program.{program_term}
use Rattle.cel.specs.declared.check.Check.{Check}
use Rattle.cel.specs.declared.check.CheckError.{CheckError}
use Rattle.cel.specs.declared.check.CheckError.TheVariants as error
use Rattle.cel.specs.declared.check.Judgement.{Judgement}
use Rattle.cel.specs.declared.check.Judgement.TheVariants as variant
use Rattle.cel.specs.declared.program.Program.{Program}
use Rattle.cel_semantics.specs.Outcome.{Outcome}
use Rattle.cel_syntax.specs.Term.{Term}
use Rattle.cel_value.specs.Faults.{Fault, fault_view}
use Rattle.cel_value.specs.Parts.{bool_in, text_in}
use Rattle.cel_value.specs.View.{kind_of}
use Rattle.cel_value.specs.declared.kind.Kind.{Kind}
use Rattle.std.specs.Prelude.{ℕ, List, Bool, true, false, Option, Some, None, option_map, option_and_then, unwrap_or, Result, Ok, Err}

-- ---- the texts of a check

-- the tree of its expression and that of its messageExpression, if it has one
pub record Trees : Type 0 where
  pub tree : Term
  pub message_tree : Option Term

-- the text that has no tree: the expression, or the messageExpression, which is this text
pub data Unread : Type 0 where
  unread : Unread
  unread_message : List ℕ → Unread

infixl 10 ◌>>=◌
abbrev pub ◌>>=◌ : {A B E : Type 0} → Result A E → (A → Result B E) → Result B E
Ok a >>= f = f a
Err e >>= f = Err e

-- the tree, or the fault if there is none
abbrev pub required_tree : Unread → Option Term → Result Term Unread
required_tree u (Some t) = Ok t
required_tree u None = Err u

abbrev pub message_tree_of : (List ℕ → Option Term) → Option (List ℕ) → Result (Option Term) Unread
message_tree_of tree_of None = Ok None
message_tree_of tree_of (Some m) = do
  t ← required_tree (unread_message m) (tree_of m)
  Ok (Some t)

abbrev pub with_tree : (List ℕ → Option Term) → Option (List ℕ) → Term → Result Trees Unread
with_tree tree_of message t = do
  m ← message_tree_of tree_of message
  Ok (record { tree = t; message_tree = m })

-- the trees of a check, or the first of its texts that has none
abbrev pub trees_of : (List ℕ → Option Term) → List ℕ → Option (List ℕ) → Result Trees Unread
trees_of tree_of text message = do
  t ← required_tree unread (tree_of text)
  with_tree tree_of message t

-- the text that has no tree, if this is the expression
abbrev pub unread_in : List ℕ → Unread → List ℕ
unread_in expression unread = expression
unread_in expression (unread_message m) = m

-- ---- what a check is judged to be

-- M is what a messageExpression comes to
pub data JudgementData (M : Type 0) : Type 0 where
  holds : JudgementData M
  -- the expression is false; what its messageExpression came to, if it has one
  fails : Option M → JudgementData M
  -- the value of the expression is none of true and false, but of this kind
  not_bool : Kind → JudgementData M
  errs : Fault → JudgementData M

abbrev pub value_judgement : {M : Type 0} → Option M → Kind → Option Bool → JudgementData M
value_judgement m k (Some true) = holds
value_judgement m k (Some false) = fails m
value_judgement m k None = not_bool k

abbrev pub judgement : {M : Type 0} → Option M → Outcome → JudgementData M
judgement m (Ok v) = value_judgement m (kind_of v) (bool_in v)
judgement m (Err e) = errs e

-- ---- the message of a check that is false

-- the string that a messageExpression evaluated to; none for another value or an error
abbrev pub message_text : Outcome → Option (List ℕ)
message_text (Ok v) = text_in v
message_text (Err e) = None

-- the string that the messageExpression evaluated to, if it did, else the check's own message
abbrev pub false_message : List ℕ → Option Outcome → List ℕ
false_message own evaluated = unwrap_or (option_and_then message_text evaluated) own

-- ---- views of the code's values

abbrev pub check_view : Check → Trees
check_view c = record { tree = program_term c.program; message_tree = option_map program_term c.message_program }

abbrev pub error_view : {E : Type 0} → CheckError E → Unread
error_view (error.Expression e) = unread
error_view (error.MessageExpression m e) = unread_message m.now

abbrev pub check_seen : {E : Type 0} → Result Check (CheckError E) → Result Trees Unread
check_seen (Ok c) = Ok (check_view c)
check_seen (Err e) = Err (error_view e)

abbrev pub judgement_view : {A M : Type 0} → (A → M) → Judgement A → JudgementData M
judgement_view seen variant.True = holds
judgement_view seen (variant.False m) = fails (option_map seen m)
judgement_view seen (variant.NotBool k) = not_bool k
judgement_view seen (variant.Error e) = errs (fault_view e)
