-- Trusted by the headline.
-- Tests of the first tokens of those that are left.
use Rattle.std.specs.Prelude.{ℕ, ◌+◌, nat_eq, Bool, true, false, ◌&&◌, not, if◌then◌else◌, List, [], ◌∷◌, drop, map, Option, Some, None, is_some}
use denote.Enum.Bare.{sameb}
use Rattle.cel_syntax_lexer.specs.contracts.punctuator.Punctuator.{the_type}
use Rattle.cel_syntax_lexer.specs.declared.punctuator.Punctuator.{Punctuator}
use Rattle.cel_syntax_lexer.specs.declared.punctuator.Punctuator.TheVariants as m
use Rattle.cel_syntax_lexer.specs.Token.{Token, punctuator, token_of}
use Rattle.cel_syntax_ast.specs.declared.expr.UnaryOperator.{UnaryOperator}
use Rattle.cel_syntax_ast.specs.declared.expr.BinaryOperator.{BinaryOperator}
use Rattle.cel_syntax.specs.declared.cursor.Cursor.{Cursor}
use Rattle.cel_syntax.specs.Operator.{sign, operator, is_operator_before}

unfoldable pub same_punctuator : Punctuator → Punctuator → Bool
same_punctuator = sameb the_type

abbrev pub sees : Punctuator → List Token → Bool
sees m (punctuator k ∷ ts) = same_punctuator k m
sees m _ = false

-- the tokens after this punctuator, if it comes first
abbrev pub after : Punctuator → List Token → List Token
after m ts = if sees m ts then drop 1 ts else ts

-- the binary operator, if it is of level k
abbrev pub if_level : ℕ → Option (ℕ × BinaryOperator) → Option BinaryOperator
if_level k None = None
if_level k (Some o) = if nat_eq o.0 k then Some o.1 else None

unfoldable pub operator_at : ℕ → List Token → Option BinaryOperator
operator_at k [] = None
operator_at k (t ∷ ts) = if_level k (operator t)

-- whether a binary operator comes first
abbrev pub sees_operator : List Token → Bool
sees_operator [] = false
sees_operator (t ∷ ts) = is_some (operator t)

-- A comma or a closing bracket follows the last item, or comes first if there are no items.
abbrev pub is_end : Punctuator → Bool
is_end m.CloseRound = true
is_end m.CloseSquare = true
is_end m.CloseBrace = true
is_end m.Comma = true
is_end _ = false

abbrev pub sees_end : List Token → Bool
sees_end (punctuator k ∷ ts) = is_end k
sees_end _ = false

-- whether a comma comes first and another item follows it
abbrev pub goes_on : List Token → Bool
goes_on ts = sees m.Comma ts && not (sees_end (drop 1 ts))

unfoldable pub sees_sign : UnaryOperator → List Token → Bool
sees_sign s ts = sees (sign s) ts && is_operator_before s (drop 1 ts)

-- the number of these signs that come first, and the tokens after them
unfoldable pub signs : UnaryOperator → List Token → ℕ × List Token
signs s [] = (0, [])
signs s (t ∷ ts) = if sees_sign s (t ∷ ts) then ((signs s ts).0 + 1, (signs s ts).1) else (0, t ∷ ts)

-- ---- the code's values as contracts see them

abbrev pub tokens_left : Cursor → List Token
tokens_left t = map token_of t.rest.now
