-- Trusted by the headline.
-- The operators. Source: section "Syntax" of the CEL language
-- definition (table of precedence and associativity).
use Rattle.std.specs.Prelude.{ℕ, Bool, true, false, not, if◌then◌else◌, List, [], ◌∷◌, Option, Some, None, codes}
use Rattle.std.specs.Str.{bytes_eq}
use Rattle.cel_syntax_lexer.specs.Token.{Token, word, number, quoted, punctuator}
use Rattle.cel_syntax_lexer.specs.declared.punctuator.Punctuator.{Punctuator}
use Rattle.cel_syntax_lexer.specs.declared.punctuator.Punctuator.TheVariants as m
use Rattle.cel_syntax_ast.specs.declared.expr.UnaryOperator.{UnaryOperator}
use Rattle.cel_syntax_ast.specs.declared.expr.UnaryOperator.TheVariants as u
use Rattle.cel_syntax_ast.specs.declared.expr.BinaryOperator.{BinaryOperator}
use Rattle.cel_syntax_ast.specs.declared.expr.BinaryOperator.TheVariants as b
use Rattle.cel_syntax_lexer.specs.Literal.{takes_minus}

-- the punctuator of a unary operator
abbrev pub sign : UnaryOperator → Punctuator
sign u.Not = m.Not
sign u.Negate = m.Minus

-- whether an int or a double comes first
abbrev pub begins_number : List Token → Bool
begins_number [] = false
begins_number (k ∷ ts) = takes_minus k

-- Whether the sign before these tokens is an operator: a minus directly
-- before an int or a double is part of the literal.
abbrev pub is_operator_before : UnaryOperator → List Token → Bool
is_operator_before u.Not ts = true
is_operator_before u.Negate ts = not (begins_number ts)

-- The level of a binary operator, and the operator. A larger level binds more loosely: 1 for
-- products, 2 for sums, 3 for relations, 4 for "and", 5 for "or".
abbrev pub operator_of : Punctuator → Option (ℕ × BinaryOperator)
operator_of m.Star = Some (1, b.Multiply)
operator_of m.Slash = Some (1, b.Divide)
operator_of m.Percent = Some (1, b.Remainder)
operator_of m.Plus = Some (2, b.Add)
operator_of m.Minus = Some (2, b.Subtract)
operator_of m.Less = Some (3, b.Less)
operator_of m.LessOrEqual = Some (3, b.LessOrEqual)
operator_of m.Greater = Some (3, b.Greater)
operator_of m.GreaterOrEqual = Some (3, b.GreaterOrEqual)
operator_of m.Equal = Some (3, b.Equal)
operator_of m.NotEqual = Some (3, b.NotEqual)
operator_of m.And = Some (4, b.And)
operator_of m.Or = Some (5, b.Or)
operator_of _ = None

-- `in` is a relation written as a word.
abbrev pub word_operator : List ℕ → Option (ℕ × BinaryOperator)
word_operator w = if bytes_eq w (codes "in") then Some (3, b.In) else None

abbrev pub operator : Token → Option (ℕ × BinaryOperator)
operator (word w) = word_operator w
operator (number ds) = None
operator (quoted s) = None
operator (punctuator m) = operator_of m
