-- Trusted by the clauses of manifests.
-- The trees that obviously aren't strings, whatever the values: the kind of the node alone decides.
-- Source: CEL language definition, "List of Standard Definitions", "Macros"; of the operators only
-- `+` yields strings, and only from strings.
use Rattle.std.specs.Prelude.{Bool, true, false, not, ◌||◌, is_some}
use Rattle.cel_syntax.specs.Term.{Term, literal, has, unary, binary, conditional, list_of, map_with, macro}
use Rattle.cel_syntax.specs.BinaryOperator.{BinaryOperator}
use Rattle.cel_syntax.specs.BinaryOperator.TheVariants.{Or, And, Less, LessOrEqual, Greater, GreaterOrEqual, Equal, NotEqual, In, Add, Subtract, Multiply, Divide, Remainder}
use Rattle.cel_value.specs.Parts.{text_in}

abbrev pub may_join : BinaryOperator → Bool
may_join Or = false
may_join And = false
may_join Less = false
may_join LessOrEqual = false
may_join Greater = false
may_join GreaterOrEqual = false
may_join Equal = false
may_join NotEqual = false
may_join In = false
may_join Add = true
may_join Subtract = false
may_join Multiply = false
may_join Divide = false
may_join Remainder = false

abbrev pub is_no_string : Term → Bool
is_no_string (literal v) = not (is_some (text_in v))
is_no_string (has a x) = true
is_no_string (unary o a) = true
is_no_string (binary o a b) = not (may_join o) || (is_no_string a || is_no_string b)
-- both branches are expected to have the same kind
is_no_string (conditional a b c) = is_no_string b || is_no_string c
is_no_string (list_of ts) = true
is_no_string (map_with ps) = true
is_no_string (macro k r x f b) = true
is_no_string _ = false
