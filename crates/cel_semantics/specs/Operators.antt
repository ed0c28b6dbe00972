-- Trusted by the headline.
-- The operators on values (CEL language definition, "Equality", "Ordering", "Logical
-- Operators", "Arithmetic"). Doubles can be held, but no operator takes one: its
-- error is that of an undeclared name `double`.
use Rattle.std.specs.Prelude.{ℕ, List, codes, Bool, false, not, ◌||◌, Ok, Err, if◌then◌else◌}
use Rattle.std.specs.Option.{option_map_or}
use Rattle.std.specs.declared.cmp.Ordering.{Ordering}
use Rattle.std.specs.Ordering.{is_lt, is_le, is_gt, is_ge}
use Rattle.cel_syntax_ast.specs.declared.expr.UnaryOperator.{UnaryOperator}
use Rattle.cel_syntax_ast.specs.declared.expr.UnaryOperator.TheVariants.{Not, Negate}
use Rattle.cel_syntax_ast.specs.declared.expr.BinaryOperator.{BinaryOperator}
use Rattle.cel_syntax_ast.specs.declared.expr.BinaryOperator.TheVariants.{Or, And, Less, LessOrEqual, Greater, GreaterOrEqual, Equal, NotEqual, In, Add, Subtract, Multiply, Divide, Remainder}
use Rattle.cel_semantics.specs.Arithmetic.{opposite, sum_of, difference_of, product_of, quotient_of, remainder_of}
use Rattle.cel_semantics.specs.Members.{membership}
use Rattle.cel_value.specs.Data.{Data, bool}
use Rattle.cel_value.specs.Faults.{no_overload}
use Rattle.cel_value.specs.Same.{same, comparison, has_double}
use Rattle.cel_semantics.specs.Outcome.{Outcome, no_doubles}

abbrev pub negation : Data → Outcome
negation (bool b) = Ok (bool (not b))
negation _ = Err (no_overload (codes "!"))

-- the operator's text
abbrev pub operator_text : BinaryOperator → List ℕ
operator_text Or = codes "||"
operator_text And = codes "&&"
operator_text Less = codes "<"
operator_text LessOrEqual = codes "<="
operator_text Greater = codes ">"
operator_text GreaterOrEqual = codes ">="
operator_text Equal = codes "=="
operator_text NotEqual = codes "!="
operator_text In = codes "in"
operator_text Add = codes "+"
operator_text Subtract = codes "-"
operator_text Multiply = codes "*"
operator_text Divide = codes "/"
operator_text Remainder = codes "%"

-- whether an order operator holds for values that compare like this
abbrev pub holds_of : BinaryOperator → Ordering → Bool
holds_of Less o = is_lt o
holds_of LessOrEqual o = is_le o
holds_of Greater o = is_gt o
holds_of GreaterOrEqual o = is_ge o
holds_of _ o = false

-- whether an order operator holds for two values without doubles
abbrev pub order_test : BinaryOperator → Data → Data → Outcome
order_test op v w =
    option_map_or (λ o. Ok (bool (holds_of op o))) (comparison v w) (Err (no_overload (operator_text op)))

-- a binary operator on two values without doubles; && and || are not applied this way
abbrev pub relation_outcome : BinaryOperator → Data → Data → Outcome
relation_outcome Or v w = Err (no_overload (operator_text Or))
relation_outcome And v w = Err (no_overload (operator_text And))
relation_outcome Less v w = order_test Less v w
relation_outcome LessOrEqual v w = order_test LessOrEqual v w
relation_outcome Greater v w = order_test Greater v w
relation_outcome GreaterOrEqual v w = order_test GreaterOrEqual v w
relation_outcome Equal v w = Ok (bool (same v w))
relation_outcome NotEqual v w = Ok (bool (not (same v w)))
relation_outcome In v w = membership v w
relation_outcome Add v w = sum_of v w
relation_outcome Subtract v w = difference_of v w
relation_outcome Multiply v w = product_of v w
relation_outcome Divide v w = quotient_of v w
relation_outcome Remainder v w = remainder_of v w

-- a unary operator
abbrev pub unary_outcome : UnaryOperator → Data → Outcome
unary_outcome Not v = if has_double v then Err no_doubles else negation v
unary_outcome Negate v = if has_double v then Err no_doubles else opposite v

-- a binary operator
abbrev pub binary_outcome : BinaryOperator → Data → Data → Outcome
binary_outcome op v w = if has_double v || has_double w then Err no_doubles else relation_outcome op v w
