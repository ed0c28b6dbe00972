-- Trusted by laws alone.
-- The tokens that a description names. Source: section "Syntax" of the CEL language definition; its
-- table of operators also has `.`, `[`, `?` and the `(` of a call.
use Rattle.std.specs.Prelude.{Bool, true, false, ◌&&◌, ◌||◌, is_some, codes}
use Rattle.std.specs.Str.{bytes_eq}
use Rattle.cel_syntax.specs.Token.{Token, word, punctuator}
use Rattle.cel_syntax.specs.Literal.{takes_minus, literal_value}
use Rattle.cel_syntax.specs.Words.{is_identifier, is_selector}
use Rattle.cel_syntax.specs.Punctuator.{Punctuator}
use Rattle.cel_syntax.specs.Punctuator.TheVariants as m
use Rattle.kube_server_parser.specs.Tables.{ends}
use Rattle.kube_server_parser.specs.declared.expected.Closing.{Closing}
use Rattle.kube_server_parser.specs.declared.expected.Closing.TheVariants as closing
use Rattle.kube_server_parser.specs.declared.expected.Expected.{Expected}
use Rattle.kube_server_parser.specs.declared.expected.Expected.TheVariants as expect

abbrev pub opens : Punctuator → Bool
opens m.OpenRound = true
opens m.OpenSquare = true
opens m.OpenBrace = true
opens m.Not = true
opens m.Minus = true
opens _ = false

abbrev pub begins_otherwise : Token → Bool
begins_otherwise (word x) = is_identifier x
begins_otherwise (punctuator k) = opens k
begins_otherwise _ = false

-- the first token of an operand: a literal, an identifier, a bracket or a sign
abbrev pub begins_operand : Token → Bool
begins_operand t = is_some (literal_value false t) || begins_otherwise t

abbrev pub is_field : Token → Bool
is_field (word x) = is_selector x
is_field _ = false

abbrev pub is_question : Token → Bool
is_question (punctuator m.Question) = true
is_question _ = false

abbrev pub is_comma : Token → Bool
is_comma (punctuator m.Comma) = true
is_comma _ = false

abbrev pub closes_list : Token → Bool
closes_list (punctuator m.CloseSquare) = true
closes_list _ = false

abbrev pub closes_map : Token → Bool
closes_map (punctuator m.CloseBrace) = true
closes_map _ = false

abbrev pub closes_call : Token → Bool
closes_call (punctuator m.CloseRound) = true
closes_call _ = false

-- what ends the part: a branch ends with a colon
abbrev pub ends_part : Closing → Punctuator → Bool
ends_part closing.Branch m.Colon = true
ends_part c k = ends c k

abbrev pub is_operator_mark : Punctuator → Bool
is_operator_mark m.Dot = true
is_operator_mark m.OpenSquare = true
is_operator_mark m.OpenRound = true
is_operator_mark m.Question = true
is_operator_mark m.Star = true
is_operator_mark m.Slash = true
is_operator_mark m.Percent = true
is_operator_mark m.Plus = true
is_operator_mark m.Minus = true
is_operator_mark m.Less = true
is_operator_mark m.LessOrEqual = true
is_operator_mark m.Greater = true
is_operator_mark m.GreaterOrEqual = true
is_operator_mark m.Equal = true
is_operator_mark m.NotEqual = true
is_operator_mark m.And = true
is_operator_mark m.Or = true
is_operator_mark _ = false

abbrev pub goes_on_with : Closing → Token → Bool
goes_on_with c (word x) = bytes_eq x (codes "in")
goes_on_with c (punctuator k) = is_operator_mark k || ends_part c k
goes_on_with c _ = false

-- the tokens of a description; behind a minus a number may be one that has a value only with it
abbrev pub describes : Expected → Token → Bool
describes expect.Operand t = begins_operand t || is_some (literal_value true t)
describes expect.Number t = takes_minus t && is_some (literal_value true t)
describes expect.FirstItem t = begins_operand t || (is_question t || (is_comma t || closes_list t))
describes expect.NextItem t = begins_operand t || (is_question t || closes_list t)
describes expect.EndOfList t = closes_list t
describes expect.FirstKey t = begins_operand t || (is_question t || (is_comma t || closes_map t))
describes expect.NextKey t = begins_operand t || (is_question t || closes_map t)
describes expect.EndOfMap t = closes_map t
describes expect.FirstArgument t = begins_operand t || closes_call t
describes expect.Index t = begins_operand t || is_question t
describes expect.Member t = is_field t || is_question t
describes expect.Field t = is_field t
describes (expect.After c) t = goes_on_with c t
