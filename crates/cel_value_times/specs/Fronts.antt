-- Trusted by the headline.
-- Parsers of the front of a text, as functions. They follow the steps of the code.
use Rattle.std.specs.Prelude.{ℕ, ◌+◌, ◌*◌, ◌==◌, List, [], ◌∷◌, length, take, drop, Option, Some, None, option_map, option_and_then, if◌then◌else◌}
use Rattle.std.specs.List.{prefix_len}
use Rattle.std.specs.Char.{is_ascii_digit}
use Rattle.std.specs.Borrow.{Bor}
use Rattle.cel_value_times.specs.Digits.{number, cut_part, digits_after_dot}

-- what a function found, and the rest of the text behind the reference
abbrev pub option_front : {A : Type 0} → Option (A × Bor (List ℕ)) → Option (A × List ℕ)
option_front r = option_map (λ p. (p.0, p.1.now)) r

abbrev pub rest_front : Option (Bor (List ℕ)) → Option (List ℕ)
rest_front r = option_map (λ rest. rest.now) r

-- the text after the byte, if it starts with that byte
abbrev pub after : ℕ → List ℕ → Option (List ℕ)
after byte [] = None
after byte (c ∷ rest) = if c == byte then Some rest else None

-- the digits at the front, and the text after them
abbrev pub leading_digits : List ℕ → List ℕ
leading_digits text = take (prefix_len is_ascii_digit text) text

abbrev pub after_digits : List ℕ → List ℕ
after_digits text = drop (prefix_len is_ascii_digit text) text

-- the digits after a dot, if the text starts with one, and the rest
abbrev pub fraction_at : List ℕ → Option (List ℕ) × List ℕ
fraction_at [] = (None, [])
fraction_at (c ∷ rest) =
    if c == 46 then (Some (leading_digits rest), after_digits rest) else (None, c ∷ rest)

-- the nanoseconds of a unit, and the text after its name
abbrev pub unit_and_rest : ℕ → Option (List ℕ) → Option (ℕ × List ℕ)
unit_and_rest unit rest = option_map (λ r. (unit, r)) rest

abbrev pub minute_or_millisecond : Option (List ℕ) → List ℕ → ℕ × List ℕ
minute_or_millisecond None rest = (60_000_000_000, rest)
minute_or_millisecond (Some later) rest = (1_000_000, later)

abbrev pub unit_at : List ℕ → Option (ℕ × List ℕ)
unit_at [] = None
unit_at (c ∷ rest) =
    if c == 104 then Some (3_600_000_000_000, rest)
    else (if c == 109 then Some (minute_or_millisecond (after 115 rest) rest)
    else (if c == 115 then Some (1_000_000_000, rest)
    else (if c == 117 then unit_and_rest 1_000 (after 115 rest)
    else (if c == 0xc2 then unit_and_rest 1_000 (option_and_then (after 115) (after 0xb5 rest))
    else (if c == 0xce then unit_and_rest 1_000 (option_and_then (after 115) (after 0xbc rest))
    else (if c == 110 then unit_and_rest 1 (after 115 rest)
    else None))))))

-- the nanoseconds of an amount, and the text after it
abbrev pub amount_of : List ℕ → List ℕ → Option (ℕ × List ℕ) → Option (ℕ × List ℕ)
amount_of whole digits found =
    option_map (λ u. (number whole * u.0 + cut_part u.0 digits, u.1)) found

abbrev pub amount_with : List ℕ → Option (List ℕ) × List ℕ → Option (ℕ × List ℕ)
amount_with whole fraction =
    if length whole + length (digits_after_dot fraction.0) == 0 then None
    else amount_of whole (digits_after_dot fraction.0) (unit_at fraction.1)

unfoldable pub amount_at : List ℕ → Option (ℕ × List ℕ)
amount_at text = amount_with (leading_digits text) (fraction_at (after_digits text))
