-- Trusted by the clauses of other library calls.
-- A single character after a backslash (Go's package `regexp/syntax`, "Syntax", escape sequences):
-- `\a`, `\f`, `\t`, `\n`, `\r`, `\v`; `\123` of up to three octal digits, where a digit other than
-- 0 has a further one behind it; `\x7F` and `\x{10FFFF}`; and each other ASCII character that is no
-- letter and no digit, which stands for itself. A code past 10FFFF is none.
use Rattle.std.specs.Prelude.{ℕ, min, nat_eq, nat_le, nat_lt, Bool, ◌&&◌, ◌||◌, List, [], ◌∷◌, take, drop, Option, Some, None, Result, Ok, Err, if◌then◌else◌}
use Rattle.std.specs.Char.{is_ascii_control, is_ascii_punctuation, is_digit}
use Rattle.kube_server_patterns.specs.Fronts.{Read, begins, digit_count, number, until}
use Rattle.kube_server_patterns.specs.declared.refusal.Limit.TheVariants.{Surrogate}
use Rattle.kube_server_patterns.specs.declared.refusal.Refusal.{Refusal}
use Rattle.kube_server_patterns.specs.declared.refusal.Refusal.TheVariants.{Invalid, Unsupported}

-- the character with this code; surrogates aren't supported
unfoldable pub coded : ℕ → Result ℕ Refusal
coded n =
    if nat_lt n 0xD800 || (nat_le 0xE000 n && nat_le n 0x10FFFF) then Ok n
    else (if nat_lt 0x10FFFF n then Err Invalid else Err (Unsupported Surrogate))

abbrev pub coded_option : Option ℕ → Result ℕ Refusal
coded_option (Some n) = coded n
coded_option None = Err Invalid

abbrev pub with_rest : List ℕ → Result ℕ Refusal → Read ℕ
with_rest t (Ok c) = Ok (c, t)
with_rest t (Err e) = Err e

-- the character whose code the digits denote
unfoldable pub numbered : ℕ → List ℕ → Result ℕ Refusal
numbered radix ds = coded_option (number radix 0x110000 ds)

abbrev pub numbered_and_rest : ℕ → List ℕ → List ℕ → Read ℕ
numbered_and_rest radix ds t = with_rest t (numbered radix ds)

-- at least one digit before the closing brace
abbrev pub braced_found : Option (List ℕ × List ℕ) → Read ℕ
braced_found None = Err Invalid
braced_found (Some ([], t)) = Err Invalid
braced_found (Some (d ∷ ds, t)) = numbered_and_rest 16 (d ∷ ds) t

unfoldable pub braced : List ℕ → Read ℕ
braced t = braced_found (until 125 t)

abbrev pub two_digits : List ℕ → Read ℕ
two_digits (a ∷ b ∷ t) = numbered_and_rest 16 (a ∷ b ∷ []) t
two_digits _ = Err Invalid

-- what follows `\x`
unfoldable pub hexadecimal : List ℕ → Read ℕ
hexadecimal [] = Err Invalid
hexadecimal (c ∷ t) = if nat_eq c 123 then braced t else two_digits (c ∷ t)

abbrev pub is_octal : ℕ → Bool
is_octal c = is_digit c 8

-- how many octal digits stand at the front, at most three
abbrev pub octal_count : List ℕ → ℕ
octal_count t = min (digit_count 8 t) 3

-- two or three octal digits, or a zero alone
unfoldable pub octal : List ℕ → Read ℕ
octal t =
    if nat_lt 1 (octal_count t) || begins 48 t
    then numbered_and_rest 8 (take (octal_count t) t) (drop (octal_count t) t) else Err Invalid

-- the control character that a letter stands for
unfoldable pub control : ℕ → Option ℕ
control c =
    if nat_eq c 97 then Some 7
    else (if nat_eq c 102 then Some 12
    else (if nat_eq c 110 then Some 10
    else (if nat_eq c 114 then Some 13
    else (if nat_eq c 116 then Some 9
    else (if nat_eq c 118 then Some 11
    else None)))))

-- an ASCII character that is no letter and no digit
unfoldable pub is_itself : ℕ → Bool
is_itself c = is_ascii_punctuation c || (is_ascii_control c || nat_eq c 32)

abbrev pub control_or_none : Option ℕ → List ℕ → Read ℕ
control_or_none (Some c) t = Ok (c, t)
control_or_none None t = Err Invalid

-- the character that stands after a backslash
unfoldable pub escape : List ℕ → Read ℕ
escape [] = Err Invalid
escape (c ∷ t) =
    if nat_eq c 120 then hexadecimal t
    else (if is_octal c then octal (c ∷ t)
    else (if is_itself c then Ok (c, t)
    else control_or_none (control c) t))
