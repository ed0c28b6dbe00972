-- Trusted by the clauses of other library calls.
-- The operators of repetition (Go's package `regexp/syntax`, "Syntax", repetitions): `*`, `+`, `?`,
-- `{n}`, `{n,}`, `{n,m}`, each lazy with a question mark behind it, or greedy where the flag `U`
-- holds. Counts are in order, at most 1000, and have no needless zero. A brace that begins no
-- counts is a character.
use Rattle.std.specs.Prelude.{ℕ, nat_eq, nat_le, nat_lt, Bool, ◌&&◌, ◌||◌, not, List, [], ◌∷◌, length, slice_index, Option, Some, None, option_map, Ok, Err, if◌then◌else◌}
use Rattle.kube_server_patterns.specs.Fronts.{Read, after, begins, number, leading_digits, after_digits}
use Rattle.kube_server_patterns.specs.declared.lexeme.Lexeme.{Lexeme}
use Rattle.kube_server_patterns.specs.declared.lexeme.Lexeme.TheVariants.{Character, Repeat}
use Rattle.kube_server_patterns.specs.declared.refusal.Refusal.TheVariants.{Invalid}

-- a digit, and no zero before another one
abbrev pub is_count : List ℕ → Bool
is_count ds = not (nat_eq (length ds) 0 || (nat_lt 1 (length ds) && nat_eq (slice_index ds 0) 48))

-- a count at the front, which is 1001 if it is larger
unfoldable pub count : List ℕ → Option (ℕ × List ℕ)
count t =
    if is_count (leading_digits t)
    then option_map (λ n. (n, after_digits t)) (number 10 1001 (leading_digits t)) else None

abbrev pub most_found : Option (ℕ × List ℕ) → Option (Option ℕ × List ℕ)
most_found found = option_map (λ p. (Some p.0, p.1)) found

-- after the least count: nothing, a comma, or a comma and the greatest count
unfoldable pub upper : ℕ → List ℕ → Option (Option ℕ × List ℕ)
upper least [] = Some (Some least, [])
upper least (c ∷ t) =
    if nat_eq c 44 then (if begins 125 t then Some (None, t) else most_found (count t))
    else Some (Some least, c ∷ t)

abbrev pub closed : ℕ → Option (Option ℕ × List ℕ) → Option ((ℕ × Option ℕ) × List ℕ)
closed least None = None
closed least (Some p) = option_map (λ t. ((least, p.0), t)) (after 125 p.1)

abbrev pub counts_from : Option (ℕ × List ℕ) → Option ((ℕ × Option ℕ) × List ℕ)
counts_from None = None
counts_from (Some p) = closed p.0 (upper p.0 p.1)

-- after an opening brace: counts and the closing brace
unfoldable pub counts : List ℕ → Option ((ℕ × Option ℕ) × List ℕ)
counts t = counts_from (count t)

-- the counts are in order and not too large
abbrev pub are_counts : ℕ → Option ℕ → Bool
are_counts least (Some most) = nat_le least most && nat_le most 1000
are_counts least None = nat_le least 1000

abbrev pub operator_before : Bool → ℕ → Option ℕ → List ℕ → Option (List ℕ) → Lexeme × List ℕ
operator_before lazy least most t (Some rest) =
    (Repeat (record { least = least; most = most; greedy = lazy }), rest)
operator_before lazy least most t None =
    (Repeat (record { least = least; most = most; greedy = not lazy }), t)

-- the operator, with the question mark that may follow it
abbrev pub operator : Bool → ℕ → Option ℕ → List ℕ → Lexeme × List ℕ
operator lazy least most t = operator_before lazy least most t (after 63 t)

abbrev pub counted : Bool → ℕ → Option ℕ → List ℕ → Read Lexeme
counted lazy least most t =
    if are_counts least most then Ok (operator lazy least most t) else Err Invalid

abbrev pub braces_or : Bool → List ℕ → Option ((ℕ × Option ℕ) × List ℕ) → Read Lexeme
braces_or lazy t None = Ok (Character 123, t)
braces_or lazy t (Some p) = counted lazy p.0.0 p.0.1 p.1

-- what follows an opening brace
unfoldable pub braces : Bool → List ℕ → Read Lexeme
braces lazy t = braces_or lazy t (counts t)
