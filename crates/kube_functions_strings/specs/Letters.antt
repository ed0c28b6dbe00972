-- Trusted by the headline.
-- Strings in another letter case, reversed, or without surrounding white space
-- (Kubernetes documentation, "CEL in Kubernetes", extended string library;
-- documentation of CEL-Go, "Strings": `lowerAscii`, `upperAscii`, `reverse`,
-- `trim`). White space is what `char::is_whitespace` of Rust accepts.
use Rattle.std.specs.Prelude.{ℕ, List, codes, reverse, Ok}
use Rattle.std.specs.Str.{chars, encode_utf8_all, trim, str_to_ascii_lowercase, str_to_ascii_uppercase}
use Rattle.cel_value.specs.Data.{Data, text}
use Rattle.cel_value.specs.Parts.{text_in}
use Rattle.cel_semantics.specs.Outcome.{Outcome}
use Rattle.kube_functions_strings.specs.Operands.{answer_with}

-- the string that a function makes from a string's text; `name` is the function's name in errors
abbrev pub text_outcome : List ℕ → (List ℕ → List ℕ) → Data → Outcome
text_outcome name change v = answer_with name (λ s. Ok (text (change s))) (text_in v)

abbrev pub lower_ascii : Data → Outcome
lower_ascii = text_outcome (codes "lowerAscii") str_to_ascii_lowercase

abbrev pub upper_ascii : Data → Outcome
upper_ascii = text_outcome (codes "upperAscii") str_to_ascii_uppercase

abbrev pub reversed_text : List ℕ → List ℕ
reversed_text s = encode_utf8_all (reverse (chars s))

abbrev pub reverse_outcome : Data → Outcome
reverse_outcome = text_outcome (codes "reverse") reversed_text

abbrev pub trim_outcome : Data → Outcome
trim_outcome = text_outcome (codes "trim") trim
