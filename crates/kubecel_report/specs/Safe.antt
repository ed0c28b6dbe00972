-- Trusted by the clauses of kubecel.
-- What no text of a file can do to a report: add a line to it, or hide something in it.
use Rattle.kubecel_report.specs.Escapes.{escaped_text, is_hidden, is_xml_char}
use Rattle.kubecel_report.specs.Items.{ItemData}
use Rattle.kubecel_report.specs.declared.escape.Escape.{Escape}
use Rattle.kubecel_report.specs.declared.escape.Escape.TheVariants as escape
use Rattle.kubecel_report.specs.declared.output.Output.{Output}
use Rattle.kubecel_report.specs.declared.output.Output.TheVariants.{Text, Coloured, Json, Github, Junit}
use Rattle.std.specs.List.{list_all}
use Rattle.std.specs.Prelude.{◌≡◌, ℕ, ◌+◌, ◌==◌, List, [], ◌∷◌, length, max, not, true, if◌then◌else◌, chars}

-- ---- lines

-- the number of lines that a text ends, each with a line feed (POSIX.1-2017, 3.206)
abbrev pub line_count : List ℕ → ℕ
line_count [] = 0
line_count (b ∷ bs) = (if b == 10 then 1 else 0) + line_count bs

-- the sum of f over things
abbrev pub total : {A : Type 0} → (A → ℕ) → List A → ℕ
total f [] = 0
total f (x ∷ xs) = f x + total f xs

-- the lines of a JSON report: one for each finding, or for a thing without any
abbrev pub json_lines : List ItemData → ℕ
json_lines [] = 1
json_lines (i ∷ is) = total (λ j. max 1 (length j.findings)) (i ∷ is)

-- the lines of a report. Its texts don't count, so no text adds a line.
abbrev pub report_lines : Output → List ItemData → ℕ
report_lines Text is = total (λ i. 1 + length i.findings) is
report_lines Coloured is = total (λ i. 1 + length i.findings) is
report_lines Json is = json_lines is
report_lines Github is = total (λ i. length i.findings) is
report_lines Junit is = 3 + total (λ i. 1 + length i.findings) is

-- ---- characters

-- the characters of an escaped text are all seen: none is a control character, none changes the order of others
abbrev pub AreSeen : Escape → List ℕ → Type 0
AreSeen e text = list_all (λ c. not (is_hidden c)) (chars (escaped_text e text)) ≡ true

-- those of a text in XML are characters that XML allows
abbrev pub AreXmlChars : List ℕ → Type 0
AreXmlChars text = list_all is_xml_char (chars (escaped_text escape.Xml text)) ≡ true
