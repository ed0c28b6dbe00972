-- Trusted by the clauses of other library calls.
-- The front of a text, which is a list of code points, and numbers in it.
use Rattle.std.specs.Prelude.{ℕ, ◌+◌, ◌*◌, min, nat_eq, nat_lt, Bool, false, not, List, [], ◌∷◌, length, take, drop, Option, Some, None, option_and_then, Result, Ok, Err, if◌then◌else◌}
use Rattle.std.specs.Borrow.{Bor}
use Rattle.std.specs.Char.{digit_value, is_digit}
use Rattle.std.specs.List.{prefix_len}
use Rattle.kube_server_patterns.specs.declared.refusal.Refusal.{Refusal}

-- what is read at the front of a text, and the rest, or why it can't be read
abbrev pub Read : Type 0 → Type 0
Read A = Result (A × List ℕ) Refusal

-- what a function found, and the rest of the text behind the reference
abbrev pub front : {A : Type 0} → Result (A × Bor (List ℕ)) Refusal → Read A
front (Ok found) = Ok (found.0, found.1.now)
front (Err refusal) = Err refusal

abbrev pub begins : ℕ → List ℕ → Bool
begins c [] = false
begins c (d ∷ t) = nat_eq d c

-- the text after the character, if it begins with it
abbrev pub after : ℕ → List ℕ → Option (List ℕ)
after c [] = None
after c (d ∷ t) = if nat_eq d c then Some t else None

-- how many characters stand before the first c
abbrev pub before_first : ℕ → List ℕ → ℕ
before_first c t = prefix_len (λ d. not (nat_eq d c)) t

-- the characters before the first c, and those after it
abbrev pub until : ℕ → List ℕ → Option (List ℕ × List ℕ)
until c t =
    if nat_lt (before_first c t) (length t)
    then Some (take (before_first c t) t, drop (before_first c t + 1) t) else None

-- how many digits in this radix stand at the front
abbrev pub digit_count : ℕ → List ℕ → ℕ
digit_count radix t = prefix_len (λ c. is_digit c radix) t

-- the decimal digits at the front, and what follows them
abbrev pub leading_digits : List ℕ → List ℕ
leading_digits t = take (digit_count 10 t) t

abbrev pub after_digits : List ℕ → List ℕ
after_digits t = drop (digit_count 10 t) t

-- the number that a further digit makes of n, but at most the limit
abbrev pub next_number : ℕ → ℕ → ℕ → ℕ → Option ℕ
next_number radix limit n c =
    if nat_lt (digit_value c) radix then Some (min limit (n * radix + digit_value c)) else None

-- the number that digits behind those of n make of it, but at most the limit
abbrev pub number_from : ℕ → ℕ → ℕ → List ℕ → Option ℕ
number_from radix limit n [] = Some n
number_from radix limit n (c ∷ t) =
    option_and_then (λ m. number_from radix limit m t) (next_number radix limit n c)

-- the number that digits denote, but at most the limit; None if one is no digit
unfoldable pub number : ℕ → ℕ → List ℕ → Option ℕ
number radix limit t = number_from radix limit 0 t
