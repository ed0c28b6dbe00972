-- Trusted by the headline.
-- Bytes as Base64 text (RFC 4648, section 4; documentation of CEL-Go,
-- "Encoders"). Missing padding is added before a text is decoded.
use Rattle.std.specs.Prelude.{◌≡◌, ◌↔◌, ℕ, ◌%◌, ◌==◌, List, [], ◌++◌, length, codes, Option, Some, Ok, Err, if◌then◌else◌}
use Rattle.std.specs.Option.{option_map_or}
use Rattle.std.specs.Result.{result_ok}
use Rattle.base64.specs.Engines.{standard}
use Rattle.base64.specs.GeneralPurpose.{IsBytes, encode_of, decode_of}
use Rattle.cel_value.specs.Data.{Data, text, bytes}
use Rattle.cel_value.specs.Faults.{Fault, function_error}
use Rattle.cel_value.specs.Parts.{text_in, bytes_in}
use Rattle.cel_semantics.specs.Outcome.{Outcome}
use Rattle.kube_functions_strings.specs.Operands.{answer_with}

unfoldable pub encoded_text : List ℕ → List ℕ
encoded_text s = encode_of standard s

abbrev pub base64_encode : Data → Outcome
base64_encode v = answer_with (codes "base64.encode") (λ s. Ok (text (encoded_text s))) (bytes_in v)

-- the missing padding, if the text lacks one or two bytes to a multiple of four
abbrev pub missing_padding : List ℕ → List ℕ
missing_padding s = if length s % 4 == 2 then codes "==" else (if length s % 4 == 3 then codes "=" else [])

abbrev pub with_padding : List ℕ → List ℕ
with_padding s = s ++ missing_padding s

abbrev pub invalid : Fault
invalid = function_error (codes "base64.decode") (codes "invalid base64")

-- the bytes that the text encodes, or none if it isn't valid Base64
unfoldable pub decoded_bytes : List ℕ → Option (List ℕ)
decoded_bytes s = result_ok (decode_of standard s)

abbrev pub bytes_or_fault : Option (List ℕ) → Outcome
bytes_or_fault o = option_map_or (λ b. Ok (bytes b)) o (Err invalid)

abbrev pub base64_decode : Data → Outcome
base64_decode v =
    answer_with (codes "base64.decode") (λ s. bytes_or_fault (decoded_bytes (with_padding s))) (text_in v)

-- a text decodes to exactly the bytes that it encodes
abbrev pub DecodesEncodings : Type 0
DecodesEncodings = (s b : List ℕ) → IsBytes s → IsBytes b → (decoded_bytes s ≡ Some b) ↔ (s ≡ encoded_text b)
