-- Trusted by the headline.
-- The values of strings and bytes. Source: the sections "Syntax" (STRING_LIT, BYTES_LIT) and
-- "String and Bytes Values" of the CEL language definition.
use Rattle.std.specs.Prelude.{ℕ, ◌-◌, nat_eq, Bool, ◌||◌, if◌then◌else◌, List, length, take, drop, slice_index, Option, Some, None, codes}
use Rattle.std.specs.List.{starts_with, ends_with}
use Rattle.std.specs.Option.{option_and_then, option_or}
use Rattle.std.specs.Str.{is_utf8}
use Rattle.cel_value.specs.Data.{Data, text, bytes}
use Rattle.cel_syntax_lexer.specs.declared.content.Content.{Content}
use Rattle.cel_syntax_lexer.specs.declared.content.Content.TheVariants.{Text, Bytes}
use Rattle.cel_syntax_lexer.specs.Escape.{unescaped_bytes}

-- the part of a spelling between these quotes
abbrev pub after_quotes : List ℕ → List ℕ → Option (List ℕ)
after_quotes quotes s = if starts_with nat_eq s quotes then Some (drop (length quotes) s) else None

abbrev pub before_quotes : List ℕ → List ℕ → Option (List ℕ)
before_quotes quotes s = if ends_with nat_eq s quotes then Some (take (length s - length quotes) s) else None

unfoldable pub between : List ℕ → List ℕ → Option (List ℕ)
between quotes s = option_and_then (before_quotes quotes) (after_quotes quotes s)

-- Tripled quotes, or single ones. `'` and `"` work alike.
unfoldable pub body_of : List ℕ → Option (List ℕ)
body_of s =
    option_or (between (codes "'''") s) (option_or (between (codes "\"\"\"") s)
    (option_or (between (codes "'") s) (between (codes "\"") s)))

-- The prefix r makes the literal raw: its body denotes itself.
abbrev pub is_raw : List ℕ → Bool
is_raw s = nat_eq (slice_index s 0) 114 || nat_eq (slice_index s 0) 82

unfoldable pub content_bytes : Content → List ℕ → Option (List ℕ)
content_bytes content s =
    if is_raw s then body_of (drop 1 s)
    else option_and_then (unescaped_bytes content) (body_of s)

-- A string consists of code points.
abbrev pub content_value : Content → List ℕ → Option Data
content_value Text s = if is_utf8 s then Some (text s) else None
content_value Bytes s = Some (bytes s)

-- The first letter b makes bytes.
abbrev pub content_of : List ℕ → Content
content_of s = if nat_eq (slice_index s 0) 98 || nat_eq (slice_index s 0) 66 then Bytes else Text

abbrev pub after_content : List ℕ → List ℕ
after_content s = if nat_eq (slice_index s 0) 98 || nat_eq (slice_index s 0) 66 then drop 1 s else s

unfoldable pub quoted_value : List ℕ → Option Data
quoted_value s =
    option_and_then (content_value (content_of s)) (content_bytes (content_of s) (after_content s))
