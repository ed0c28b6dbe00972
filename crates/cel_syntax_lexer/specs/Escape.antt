-- Trusted by the headline.
-- The escapes of quoted literals. Source: the sections "Syntax" (ESCAPE, BYTES_LIT) and "String and
-- Bytes Values" of the CEL language definition.
use Rattle.std.specs.Prelude.{ℕ, zero, suc, nat_lt, nat_le, nat_eq, ◌&&◌, ◌||◌, if◌then◌else◌, List, [], ◌∷◌, ◌++◌, length, take, Option, Some, None, option_map}
use Rattle.std.specs.Option.{option_and_then}
use Rattle.std.specs.Char.{encode_utf8, is_digit}
use Rattle.cel_syntax_lexer.specs.declared.content.Content.{Content}
use Rattle.cel_syntax_lexer.specs.declared.content.Content.TheVariants.{Text, Bytes}
use Rattle.cel_syntax_lexer.specs.Number.{numeral_value}

-- a letter that denotes a control character, or a character that denotes itself: \ ? " ' `
unfoldable pub letter_code : ℕ → Option ℕ
letter_code c =
    if nat_eq c 97 then Some 7
    else (if nat_eq c 98 then Some 8
    else (if nat_eq c 102 then Some 12
    else (if nat_eq c 110 then Some 10
    else (if nat_eq c 114 then Some 13
    else (if nat_eq c 116 then Some 9
    else (if nat_eq c 118 then Some 11
    else (if nat_eq c 92 || (nat_eq c 63 || (nat_eq c 34 || (nat_eq c 39 || nat_eq c 96)))
    then Some c else None)))))))

-- the number that the first n bytes denote, if all of them are digits
unfoldable pub digits_code : ℕ → ℕ → List ℕ → Option ℕ
digits_code radix n s = if nat_le n (length s) then numeral_value radix (take n s) else None

-- a number of 8 bits
abbrev pub octet : ℕ → Option ℕ
octet n = if nat_lt n 256 then Some n else None

-- a code point that is no surrogate
abbrev pub code_point : ℕ → Option ℕ
code_point n = if nat_lt n 0xD800 || (nat_le 0xE000 n && nat_le n 0x10FFFF) then Some n else None

unfoldable pub octet_code : ℕ → ℕ → List ℕ → Option ℕ
octet_code radix n s = option_and_then octet (digits_code radix n s)

-- Bytes have no Unicode escapes.
unfoldable pub unicode_code : Content → ℕ → List ℕ → Option ℕ
unicode_code Text n s = option_and_then code_point (digits_code 16 n s)
unicode_code Bytes n s = None

abbrev pub code_and_size : ℕ → Option ℕ → Option (ℕ × ℕ)
code_and_size n None = None
code_and_size n (Some code) = Some (code, n)

-- The escape after a backslash: the code that it denotes, and the number of bytes that it takes. x
-- and X have two hex digits, u four and U eight; without a letter there are three octal digits.
unfoldable pub escape : Content → List ℕ → Option (ℕ × ℕ)
escape content [] = None
escape content (c ∷ s) =
    if nat_eq c 120 || nat_eq c 88 then code_and_size 3 (octet_code 16 2 s)
    else (if nat_eq c 117 then code_and_size 5 (unicode_code content 4 s)
    else (if nat_eq c 85 then code_and_size 9 (unicode_code content 8 s)
    else (if is_digit c 8 then code_and_size 3 (octet_code 8 3 (c ∷ s))
    else code_and_size 1 (letter_code c))))

-- A code is a code point in a string, and a byte in bytes.
unfoldable pub code_bytes : Content → ℕ → List ℕ
code_bytes Text code = encode_utf8 code
code_bytes Bytes code = code ∷ []

abbrev pub after_escape : Content → (ℕ → Option (List ℕ)) → Option (ℕ × ℕ) → Option (List ℕ)
after_escape content rest None = None
after_escape content rest (Some e) = option_map (λ s. code_bytes content e.0 ++ s) (rest e.1)

-- the bytes that a body denotes, without its first n bytes, which belong to the escape before
unfoldable pub unescaped_after : Content → ℕ → List ℕ → Option (List ℕ)
unescaped_after content n [] = Some []
unescaped_after content (suc n) (b ∷ s) = unescaped_after content n s
unescaped_after content zero (b ∷ s) =
    if nat_eq b 92 then after_escape content (λ n. unescaped_after content n s) (escape content s)
    else option_map (λ made. b ∷ made) (unescaped_after content zero s)

-- the bytes that a body denotes: a backslash begins an escape, any other byte denotes itself
abbrev pub unescaped_bytes : Content → List ℕ → Option (List ℕ)
unescaped_bytes content s = unescaped_after content 0 s
