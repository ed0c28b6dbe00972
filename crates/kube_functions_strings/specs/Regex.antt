-- Trusted by the headline.
-- The matches of a pattern in a string (Kubernetes documentation, "CEL in Kubernetes", regex
-- library, `find`, `findAll`). A book says which patterns are refused, and what the others match.
use Rattle.std.specs.Prelude.{ℕ, ℤ, pos, negsuc, List, [], ◌∷◌, codes, map, Option, Some, None, Ok, Err, slice_range}
use Rattle.std.specs.Option.{option_map_or, option_zip}
use Rattle.cel_patterns.specs.Book.{Book, found_by}
use Rattle.cel_value.specs.Data.{Data, text, list}
use Rattle.cel_value.specs.Faults.{invalid_pattern}
use Rattle.cel_value.specs.View.{items_of}
use Rattle.cel_semantics.specs.Outcome.{Outcome}
use Rattle.kube_functions_strings.specs.Operands.{texts_in, optional_int_in, answer_with}

-- the text of a match, from its span
abbrev pub match_text : List ℕ → ℕ × ℕ → List ℕ
match_text s p = slice_range s p.0 p.1

-- the text of the first match, which is empty if there is none
abbrev pub first_match : List ℕ → List (ℕ × ℕ) → Data
first_match s [] = text []
first_match s (p ∷ ps) = text (match_text s p)

abbrev pub match_texts : List ℕ → List (ℕ × ℕ) → Data
match_texts s ps = list (items_of (map (λ p. text (match_text s p)) ps))

-- the value made from the spans of the matches; a refused pattern is an error of the function
abbrev pub unless_refused : List ℕ → (List (ℕ × ℕ) → Data) → Option (List (ℕ × ℕ)) → Outcome
unless_refused name f o = option_map_or (λ ps. Ok (f ps)) o (Err (invalid_pattern name))

-- the limit that an argument sets, or none if it is absent or negative
abbrev pub limit_of : Option ℤ → Option ℕ
limit_of None = None
limit_of (Some (pos n)) = Some n
limit_of (Some (negsuc n)) = None

abbrev pub first_found : List ℕ → List ℕ → Book → Outcome
first_found s pattern book = unless_refused (codes "find") (first_match s) (found_by book pattern s (Some 1))

abbrev pub each_found : List ℕ → List ℕ → Option ℕ → Book → Outcome
each_found s pattern limit book =
    unless_refused (codes "findAll") (match_texts s) (found_by book pattern s limit)

abbrev pub find_outcome : Data → Data → Book → Outcome
find_outcome v w book = answer_with (codes "find") (λ p. first_found p.0 p.1 book) (texts_in v w)

abbrev pub find_all_outcome : Data → Data → Option Data → Book → Outcome
find_all_outcome v w n book =
    answer_with (codes "findAll") (λ p. each_found p.0.0 p.0.1 (limit_of p.1) book)
    (option_zip (texts_in v w) (optional_int_in n))
