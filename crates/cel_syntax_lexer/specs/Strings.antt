-- Trusted by the headline.
-- The spelling of string and bytes literals. Whether the escapes are valid doesn't
-- matter here: a literal with an invalid one is a token without a value. Source:
-- STRING_LIT, BYTES_LIT and ESCAPE in the section "Syntax" of the CEL language
-- definition, and its section "String and Bytes Values".
use Rattle.std.specs.Prelude.{ℕ, ◌+◌, Bool, true, false, not, ◌&&◌, ◌||◌, if◌then◌else◌, nat_eq, List, [], ◌∷◌, length, Option, Some, None, option_map}
use Rattle.cel_syntax_lexer.specs.declared.string_literal.Quotes.{Quotes}
use Rattle.cel_syntax_lexer.specs.Spelling.{is_byte, is_either, begins, one_then}

-- a double or a single quote
abbrev pub is_quote : ℕ → Bool
is_quote b = nat_eq b 34 || nat_eq b 39

-- newline or carriage return
abbrev pub is_line_break : ℕ → Bool
is_line_break b = nat_eq b 10 || nat_eq b 13

-- this byte three times
abbrev pub begins_three : ℕ → List ℕ → Bool
begins_three quote [] = false
begins_three quote (b ∷ []) = false
begins_three quote (b ∷ c ∷ []) = false
begins_three quote (b ∷ c ∷ d ∷ z) = nat_eq b quote && nat_eq c quote && nat_eq d quote

-- ---- where a string ends

-- tripled quotes at the front, or a single one
abbrev pub quotes_stand : Bool → ℕ → List ℕ → Bool
quotes_stand true quote z = begins_three quote z
quotes_stand false quote z = begins (is_byte quote) z

abbrev pub quotes_length : Bool → ℕ
quotes_length true = 3
quotes_length false = 1

-- The closing quotes are at the front. A byte that a backslash escapes closes nothing.
abbrev pub closes : Quotes → Bool → List ℕ → Bool
closes q hidden z = not hidden && quotes_stand q.tripled q.byte z

-- a byte that may not be in the string: a line break, unless the quotes are tripled
abbrev pub breaks : Quotes → ℕ → Bool
breaks q b = not q.tripled && is_line_break b

-- a backslash, which escapes the next byte, unless the
-- string is raw or the backslash is itself escaped
abbrev pub hides : Quotes → Bool → ℕ → Bool
hides q hidden b = not hidden && not q.raw && nat_eq b 92

-- the number of bytes of the string's text and its closing quotes, if it
-- is closed: it ends at the first closing quotes
unfoldable pub end_of : Quotes → Bool → List ℕ → Option ℕ
end_of q hidden [] = None
end_of q hidden (b ∷ z) =
    if closes q hidden (b ∷ z) then Some (quotes_length q.tripled)
    else (if breaks q b then None
    else option_map (λ n. 1 + n) (end_of q (hides q hidden b) z))

abbrev pub is_all : List ℕ → Option ℕ → Bool
is_all z None = false
is_all z (Some n) = nat_eq n (length z)

-- the text of a string and its closing quotes, and nothing more
unfoldable pub is_closed : Quotes → List ℕ → Bool
is_closed q z = is_all z (end_of q false z)

-- ---- whole strings

-- the third opening quote, the text and the closing quotes
abbrev pub is_after_two : Quotes → List ℕ → Bool
is_after_two q z = one_then (is_byte q.byte) (is_closed q) z

abbrev pub is_after_one : Quotes → List ℕ → Bool
is_after_one q z = one_then (is_byte q.byte) (is_after_two q) z

abbrev pub single_quotes : Bool → ℕ → Quotes
single_quotes raw quote = record { byte = quote; tripled = false; raw = raw }

abbrev pub triple_quotes : Bool → ℕ → Quotes
triple_quotes raw quote = record { byte = quote; tripled = true; raw = raw }

-- in single quotes or in tripled ones
unfoldable pub is_string : Bool → List ℕ → Bool
is_string raw [] = false
is_string raw (b ∷ z) =
    is_quote b && (is_closed (single_quotes raw b) z || is_after_one (triple_quotes raw b) z)

-- `r` or `R`, then a string in which a backslash escapes nothing
unfoldable pub is_raw_string : List ℕ → Bool
is_raw_string z = one_then (is_either 114 82) (is_string true) z

abbrev pub is_after_b : List ℕ → Bool
is_after_b z = is_string false z || is_raw_string z

-- `b` or `B`, then a string, raw or not
unfoldable pub is_bytes : List ℕ → Bool
is_bytes z = one_then (is_either 98 66) is_after_b z

unfoldable pub is_prefixed : List ℕ → Bool
is_prefixed z = is_raw_string z || is_bytes z
