-- Trusted by the headline.
-- The values of literals. Source: the sections "Syntax"
-- (LITERAL) and "Values" of the CEL language definition.
use Rattle.std.specs.Prelude.{ℕ, Bool, true, false, if◌then◌else◌, List, Option, Some, None, codes}
use Rattle.std.specs.Str.{bytes_eq}
use Rattle.cel_value.specs.Data.{Data, null, bool}
use Rattle.cel_syntax_lexer.specs.Token.{Token, word, number, quoted, punctuator}
use Rattle.cel_syntax_lexer.specs.Number.{goes_with_minus, number_value}
use Rattle.cel_syntax_lexer.specs.StringValues.{quoted_value}

unfoldable pub word_value : List ℕ → Option Data
word_value w =
    if bytes_eq w (codes "true") then Some (bool true)
    else (if bytes_eq w (codes "false") then Some (bool false)
    else (if bytes_eq w (codes "null") then Some null else None))

-- Only a number can have a minus.
abbrev pub unless_negative : Bool → Option Data → Option Data
unless_negative true o = None
unless_negative false o = o

-- whether a minus before the token is part of the literal: it is an int or a double, not a uint
abbrev pub takes_minus : Token → Bool
takes_minus (word w) = false
takes_minus (number s) = goes_with_minus s
takes_minus (quoted s) = false
takes_minus (punctuator m) = false

-- the value of a literal, with or without a minus, or None if the token is no valid literal
abbrev pub literal_value : Bool → Token → Option Data
literal_value negative (word w) = unless_negative negative (word_value w)
literal_value negative (number s) = number_value negative s
literal_value negative (quoted s) = unless_negative negative (quoted_value s)
literal_value negative (punctuator m) = None
