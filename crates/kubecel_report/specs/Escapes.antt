-- Trusted by the clauses of kubecel.
-- How a text of a file is written in each form of output, so that it adds no line and no command: what a
-- reader doesn't see, and what GitHub's runner would take for a command, is written as an escape. Sources: Unicode Character Database 18.0, DerivedGeneralCategory.txt
-- (Cc, Cf, Zl, Zp); RFC 8259, section 7; XML 1.0, sections 2.2 (production 2), 2.4, 2.11, 3.3.3, 4.1; GitHub's
-- documentation, "Workflow commands", and the escapes of its package `@actions/core`; the class `ActionCommand` of its
-- runner.
use Rattle.kubecel_report.specs.declared.escape.Before.{Before}
use Rattle.kubecel_report.specs.declared.escape.Escape.{Escape}
use Rattle.kubecel_report.specs.declared.escape.Escape.TheVariants as escape
use Rattle.std.specs.Char.{digit_char, is_control, is_whitespace}
use Rattle.std.specs.Int.{is_in_range}
use Rattle.std.specs.Prelude.{ℕ, ◌+◌, ◌-◌, ◌/◌, ◌%◌, ◌==◌, ◌&&◌, ◌||◌, nat_lt, List, [], ◌∷◌, ◌++◌, Bool, true, false, if◌then◌else◌, Option, Some, None, chars, codes, decimal, encode_utf8}

-- ---- characters that aren't seen

-- a character of the category Cf: it has no glyph, and may change the order of those beside it
abbrev pub is_format : ℕ → Bool
is_format c =
    c == 0xAD || (is_in_range 0x600 0x605 c || (c == 0x61C || (c == 0x6DD || (c == 0x70F
    || (is_in_range 0x890 0x891 c || (c == 0x8E2 || (c == 0x180E || (is_in_range 0x200B 0x200F c
    || (is_in_range 0x202A 0x202E c || (is_in_range 0x2060 0x2064 c || (is_in_range 0x2066 0x206F c || (c == 0xFEFF
    || (is_in_range 0xFFF9 0xFFFB c || (c == 0x110BD || (c == 0x110CD || (is_in_range 0x13430 0x1343F c
    || (is_in_range 0x1BCA0 0x1BCA3 c || (is_in_range 0x1D173 0x1D17A c || (c == 0xE0001 || is_in_range 0xE0020 0xE007F c)))))))))))))))))))

-- what separates lines or paragraphs (Zl, Zp), and two codes that are no characters
abbrev pub is_separator : ℕ → Bool
is_separator c = is_in_range 0x2028 0x2029 c || is_in_range 0xFFFE 0xFFFF c

-- a control character (Cc), or another that isn't seen
abbrev pub is_hidden : ℕ → Bool
is_hidden c = is_control c || (is_format c || is_separator c)

-- the characters that XML allows (production 2)
abbrev pub is_xml_char : ℕ → Bool
is_xml_char c =
    c == 0x9 || (c == 0xA || (c == 0xD || (is_in_range 0x20 0xD7FF c || (is_in_range 0xE000 0xFFFD c
    || is_in_range 0x10000 0x10FFFF c))))

-- ---- escapes by numbers

-- `\uXXXX`
unfoldable pub code_unit : ℕ → List ℕ
code_unit n =
    92 ∷ 117 ∷ digit_char (n / 0x1000 % 16) ∷ digit_char (n / 0x100 % 16) ∷ digit_char (n / 0x10 % 16)
    ∷ digit_char (n % 16) ∷ []

-- the escape of a character in a string of JSON: two of its UTF-16 units if one doesn't do
unfoldable pub unicode_escape : ℕ → List ℕ
unicode_escape c =
    if nat_lt c 0x10000 then code_unit c
    else code_unit (0xD800 + (c - 0x10000) / 0x400) ++ code_unit (0xDC00 + (c - 0x10000) % 0x400)

-- `&#N;`, by which XML refers to a character
unfoldable pub character_reference : ℕ → List ℕ
character_reference c = codes "&#" ++ (decimal c ++ codes ";")

-- ---- escapes by form of output

-- in a line of text: a line feed is `\n`
abbrev pub shown_escape : ℕ → Option (List ℕ)
shown_escape c =
    if c == 9 then Some (codes "\\t")
    else (if c == 10 then Some (codes "\\n") else (if c == 13 then Some (codes "\\r") else None))

-- after the `::` of a workflow command
abbrev pub data_escape : ℕ → Option (List ℕ)
data_escape c =
    if c == 37 then Some (codes "%25")
    else (if c == 13 then Some (codes "%0D") else (if c == 10 then Some (codes "%0A") else shown_escape c))

-- in a property of a workflow command
abbrev pub property_escape : ℕ → Option (List ℕ)
property_escape c =
    if c == 58 then Some (codes "%3A") else (if c == 44 then Some (codes "%2C") else data_escape c)

-- in XML, as character data or within quotation marks
abbrev pub xml_escape : ℕ → Option (List ℕ)
xml_escape c =
    if c == 38 then Some (codes "&amp;")
    else (if c == 60 then Some (codes "&lt;")
    else (if c == 62 then Some (codes "&gt;") else (if c == 34 then Some (codes "&quot;") else None)))

-- the escape of a character that is written in one way always, if it has one
abbrev pub escape_of : Escape → ℕ → Option (List ℕ)
escape_of escape.Shown c = shown_escape c
escape_of escape.Json c = None
escape_of escape.Xml c = xml_escape c
escape_of escape.Data c = data_escape c
escape_of escape.Property c = property_escape c

-- a character that isn't seen; XML keeps it, by its number, if it allows it
abbrev pub hidden_escape : Escape → ℕ → List ℕ
hidden_escape escape.Shown c = unicode_escape c
hidden_escape escape.Json c = unicode_escape c
hidden_escape escape.Xml c = if is_xml_char c then character_reference c else unicode_escape c
hidden_escape escape.Data c = unicode_escape c
hidden_escape escape.Property c = unicode_escape c

abbrev pub by_escape : Escape → ℕ → Option (List ℕ) → List ℕ
by_escape e c None = if is_hidden c then hidden_escape e c else encode_utf8 c
by_escape e c (Some text) = text

unfoldable pub escaped_character : Escape → ℕ → List ℕ
escaped_character e c = by_escape e c (escape_of e c)

-- ---- what GitHub's runner takes for a command

-- what stands before a text
abbrev pub at_start : Before
at_start = record { is_blank = true; ends_in_sign = false; ends_in_two_signs = false }

-- what stands behind a character
abbrev pub after : Before → ℕ → Before
after s c = record {
  is_blank = s.is_blank && is_whitespace c;
  ends_in_sign = c == 35;
  ends_in_two_signs = s.ends_in_sign && c == 35;
}

-- A line with `::` behind blanks is a command, and so is what stands behind `##[`, wherever that is.
abbrev pub is_of_command : Before → ℕ → Bool
is_of_command s c = (s.is_blank && c == 58) || (s.ends_in_two_signs && c == 91)

-- a colon that begins a text behind blanks, and a bracket behind two number signs; within a command there is no other
abbrev pub command_escape : Escape → ℕ → List ℕ
command_escape escape.Shown c = unicode_escape c
command_escape escape.Json c = unicode_escape c
command_escape escape.Xml c = character_reference c
command_escape escape.Data c = escaped_character escape.Data c
command_escape escape.Property c = escaped_character escape.Property c

unfoldable pub written_behind : Escape → Before → ℕ → List ℕ
written_behind e s c = if is_of_command s c then command_escape e c else escaped_character e c

-- the rest of a text
abbrev pub escaped_rest : Escape → Before → List ℕ → List ℕ
escaped_rest e s [] = []
escaped_rest e s (c ∷ cs) = written_behind e s c ++ escaped_rest e (after s c) cs

unfoldable pub escaped_text : Escape → List ℕ → List ℕ
escaped_text e text = escaped_rest e at_start (chars text)
