-- Trusted by the headline.
-- The text of an item under a verb (documentation of CEL-Go, "Strings": `format`; Kubernetes
-- documentation, "CEL in Kubernetes", extended string library). `%s` prints the text of a value,
-- `%d` a decimal number, `%o`, `%b`, `%x` and `%X` the digits of 64 bits in base 8, 2 and 16, with
-- ints in two's complement; `%b` also prints a bool, and `%x` and `%X` also the bytes of bytes and
-- of a string in UTF-8. The verbs of doubles, `%f` and `%e`, are not declared.
use Rattle.std.specs.Prelude.{ℕ, ◌/◌, ◌%◌, ◌==◌, Bool, true, false, List, [], ◌∷◌, ◌++◌, codes, decimal, encode_utf8, Option, Result, Ok, Err}
use Rattle.std.specs.Fmt.{digits, digit_glyph, signed_decimal}
use Rattle.std.specs.Int.{w64, cast_unsigned}
use Rattle.std.specs.List.{flat_map}
use Rattle.std.specs.Map.{lookup}
use Rattle.std.specs.Option.{option_map_or}
use Rattle.cel_value.specs.Data.{Data, bool, int, uint, text, bytes}
use Rattle.cel_value.specs.Faults.{Fault, function_error}
use Rattle.cel_value.specs.Kinds.{kind_name}
use Rattle.cel_value.specs.Texts.{printed_text}
use Rattle.cel_value.specs.View.{kind_of}
use Rattle.cel_value.specs.declared.kind.Kind.{Kind}
use Rattle.cel_semantics.specs.Outcome.{no_doubles}
use Rattle.kube_functions_format.specs.declared.verbs.Verb.{Verb}
use Rattle.kube_functions_format.specs.declared.verbs.Verb.TheVariants.{Text, Decimal, Octal, Binary, LowerHex, UpperHex, Double}

-- the verb with a letter
abbrev pub verb_of : ℕ → Option Verb
verb_of c = lookup (λ d. c == d) (
    (115, Text)
    ∷ (100, Decimal)
    ∷ (111, Octal)
    ∷ (98, Binary)
    ∷ (120, LowerHex)
    ∷ (88, UpperHex)
    ∷ (102, Double)
    ∷ (101, Double)
    ∷ [])

-- the error of `format` with a message
abbrev pub format_fault : List ℕ → Fault
format_fault message = function_error (codes "format") message

-- ---- the text of an item, or its kind if the verb doesn't take it

abbrev pub decimal_form : Data → Result (List ℕ) Kind
decimal_form (int n) = Ok (signed_decimal n)
decimal_form (uint n) = Ok (decimal n)
decimal_form d = Err (kind_of d)

abbrev pub octal_form : Data → Result (List ℕ) Kind
octal_form (int n) = Ok (digits 8 false (cast_unsigned w64 n))
octal_form (uint n) = Ok (digits 8 false n)
octal_form d = Err (kind_of d)

abbrev pub bit_text : Bool → List ℕ
bit_text true = codes "1"
bit_text false = codes "0"

abbrev pub binary_form : Data → Result (List ℕ) Kind
binary_form (bool b) = Ok (bit_text b)
binary_form (int n) = Ok (digits 2 false (cast_unsigned w64 n))
binary_form (uint n) = Ok (digits 2 false n)
binary_form d = Err (kind_of d)

-- two digits for each byte
abbrev pub byte_digits : Bool → ℕ → List ℕ
byte_digits upper b = digit_glyph upper (b / 16) ∷ digit_glyph upper (b % 16) ∷ []

abbrev pub bytes_digits : Bool → List ℕ → List ℕ
bytes_digits upper bs = flat_map (byte_digits upper) bs

abbrev pub hex_form : Bool → Data → Result (List ℕ) Kind
hex_form upper (int n) = Ok (digits 16 upper (cast_unsigned w64 n))
hex_form upper (uint n) = Ok (digits 16 upper n)
hex_form upper (text s) = Ok (bytes_digits upper s)
hex_form upper (bytes s) = Ok (bytes_digits upper s)
hex_form upper d = Err (kind_of d)

-- ---- verbs

-- the printed text, or an error
abbrev pub Shown : Type 0
Shown = Result (List ℕ) Fault

-- the text, or an error whose message is `refusal` and the name of the kind
abbrev pub or_refused : List ℕ → Result (List ℕ) Kind → Shown
or_refused refusal (Ok t) = Ok t
or_refused refusal (Err k) = Err (format_fault (refusal ++ kind_name k))

abbrev pub shown_by : Verb → Data → Shown
shown_by Text d = or_refused (codes "%s does not support ") (printed_text d)
shown_by Decimal d = or_refused (codes "%d requires int or uint, got ") (decimal_form d)
shown_by Octal d = or_refused (codes "%o requires int or uint, got ") (octal_form d)
shown_by Binary d = or_refused (codes "%b requires int, uint, or bool, got ") (binary_form d)
shown_by LowerHex d = or_refused (codes "%x requires int, uint, string, or bytes, got ") (hex_form false d)
shown_by UpperHex d = or_refused (codes "%x requires int, uint, string, or bytes, got ") (hex_form true d)
shown_by Double d = Err no_doubles

abbrev pub unknown_verb : ℕ → Fault
unknown_verb c = format_fault (codes "unknown format verb '%" ++ (encode_utf8 c ++ codes "'"))

-- the text of an item under the verb with letter c
abbrev pub shown_by_letter : ℕ → Data → Shown
shown_by_letter c d = option_map_or (λ v. shown_by v d) (verb_of c) (Err (unknown_verb c))
