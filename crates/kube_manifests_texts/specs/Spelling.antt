-- Trusted by the clauses of policies.
-- Whether a text is a word of a list, and which word was meant where it isn't: one that is one letter off, has two
-- neighbouring letters swapped, or differs in case alone. Source: Damerau, "A technique for computer
-- detection and correction of spelling errors", 1964.
use Rattle.std.specs.Prelude.{ℕ, List, [], ◌∷◌, ◌==◌, ◌||◌, ◌&&◌, Bool, true, false, Option, Some, None, codes, if◌then◌else◌}
use Rattle.std.specs.List.{join_by, list_any}
use Rattle.std.specs.Str.{bytes_eq, chars, str_eq_ignore_ascii_case}

-- whether a text is one of these words
abbrev pub is_word : List (List ℕ) → List ℕ → Bool
is_word words k = list_any (bytes_eq k) words

-- whether no character remains
abbrev pub is_end : List ℕ → Bool
is_end [] = true
is_end (c ∷ cs) = false

-- whether inserting, deleting or replacing exactly one character turns one into the other; equal
-- first characters are skipped
abbrev pub one_letter_off : List ℕ → List ℕ → Bool
one_letter_off [] [] = false
one_letter_off [] (w ∷ ws) = is_end ws
one_letter_off (k ∷ ks) [] = is_end ks
one_letter_off (k ∷ ks) (w ∷ ws) =
    if k == w then one_letter_off ks ws
    else (bytes_eq ks ws || (bytes_eq (k ∷ ks) ws || bytes_eq ks (w ∷ ws)))

-- whether the first two characters of one are those of the other swapped, and the others are equal
abbrev pub begins_swapped : List ℕ → List ℕ → Bool
begins_swapped (k ∷ l ∷ ks) (w ∷ v ∷ ws) = k == v && (l == w && bytes_eq ks ws)
begins_swapped _ _ = false

-- whether swapping two different neighbouring characters turns one into the other; equal first
-- characters are skipped
abbrev pub two_letters_swapped : List ℕ → List ℕ → Bool
two_letters_swapped (k ∷ ks) (w ∷ ws) =
    if k == w then two_letters_swapped ks ws else begins_swapped (k ∷ ks) (w ∷ ws)
two_letters_swapped _ _ = false

-- whether a text is near a word
abbrev pub is_near : List ℕ → List ℕ → Bool
is_near k w =
    one_letter_off (chars k) (chars w)
    || (two_letters_swapped (chars k) (chars w) || str_eq_ignore_ascii_case k w)

-- the first of these words that a text is near
abbrev pub near : List (List ℕ) → List ℕ → Option (List ℕ)
near [] k = None
near (w ∷ ws) k = if is_near k w then Some w else near ws k

-- the words, with a comma between each two
abbrev pub joined : List (List ℕ) → List ℕ
joined words = join_by (λ w. w) (codes ", ") words
