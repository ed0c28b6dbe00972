-- Trusted by the headline.
-- Splitting strings at a separator, replacing a part, and joining (Kubernetes
-- documentation, "CEL in Kubernetes", extended string library; documentation of
-- CEL-Go, "Strings": `split`, `replace`, `join`). A separator that isn't empty is
-- found from the left, each time as the first match that begins at or after the
-- end of the one before it; an empty one is found once at each character boundary.
use Rattle.std.specs.Prelude.{ℕ, suc, ◌+◌, ◌-◌, ◌==◌, nat_le, ◌&&◌, ℤ, pos, negsuc, Bool, List, [], ◌∷◌, length, map, drop, codes, Option, Some, None, Ok, slice_range, if◌then◌else◌}
use Rattle.std.specs.List.{range_with_len, join_by}
use Rattle.std.specs.Option.{option_zip}
use Rattle.std.specs.Str.{chars, encode_utf8_all}
use Rattle.cel_patterns.specs.Book.{first_of}
use Rattle.cel_value.specs.Data.{Data, text, list}
use Rattle.cel_value.specs.Parts.{text_in}
use Rattle.cel_value.specs.View.{items_of}
use Rattle.cel_semantics.specs.Outcome.{Outcome}
use Rattle.kube_functions_strings.specs.Operands.{texts_in, optional_int_in, answer_with}
use Rattle.kube_functions_strings.specs.Offsets.{stands_at, at_least_zero}

-- a separator occurs at offset k, which is at or after `end`
abbrev pub is_next : List ℕ → List ℕ → ℕ → ℕ → Bool
is_next cs part end k = nat_le end k && stands_at cs part k

-- the spans of the separators that begin at one of the
-- ascending offsets, the first of them at or after `end`
abbrev pub spans_among : List ℕ → List ℕ → ℕ → List ℕ → List (ℕ × ℕ)
spans_among cs part end [] = []
spans_among cs part end (k ∷ ks) =
    if is_next cs part end k then (k, k + length part) ∷ spans_among cs part (k + length part) ks
    else spans_among cs part end ks

-- the spans of all separators in a text
abbrev pub separators : List ℕ → List ℕ → List (ℕ × ℕ)
separators cs part = spans_among cs part 0 (range_with_len 0 (suc (length cs)))

-- the texts around the spans, from an offset on
abbrev pub around : List ℕ → ℕ → List (ℕ × ℕ) → List (List ℕ)
around cs start [] = drop start cs ∷ []
around cs start (p ∷ ps) = slice_range cs start p.0 ∷ around cs p.1 ps

-- the texts around the first `limit` separators, or around all of them if there is no limit
abbrev pub pieces : List ℕ → List ℕ → Option ℕ → List (List ℕ)
pieces cs part limit = map encode_utf8_all (around cs 0 (first_of limit (separators cs part)))

abbrev pub text_list : List (List ℕ) → Data
text_list ts = list (items_of (map text ts))

-- the texts, with another one between them
abbrev pub text_with_separators : List ℕ → List (List ℕ) → List ℕ
text_with_separators = join_by (λ t. t)

-- ---- split

-- at most `count` pieces, the last of which holds the
-- rest; all pieces if the count is absent or negative
abbrev pub split_pieces : List ℕ → List ℕ → Option ℤ → List (List ℕ)
split_pieces cs part None = pieces cs part None
split_pieces cs part (Some (pos n)) = if n == 0 then [] else pieces cs part (Some (n - 1))
split_pieces cs part (Some (negsuc n)) = pieces cs part None

abbrev pub split_outcome : Data → Data → Option Data → Outcome
split_outcome v w n =
    answer_with (codes "split") (λ p. Ok (text_list (split_pieces (chars p.0.0) (chars p.0.1) p.1)))
    (option_zip (texts_in v w) (optional_int_in n))

-- ---- replace

-- the number of separators to replace: `count`, or none if it is negative; all if it is absent
abbrev pub most : Option ℤ → Option ℕ
most None = None
most (Some n) = Some (at_least_zero n)

abbrev pub replaced_text : List ℕ → List ℕ → List ℕ → Option ℤ → List ℕ
replaced_text s part new n = text_with_separators new (pieces (chars s) (chars part) (most n))

abbrev pub replace_outcome : Data → Data → Data → Option Data → Outcome
replace_outcome v w x n =
    answer_with (codes "replace") (λ p. Ok (text (replaced_text p.0.0 p.0.1 p.1.0 p.1.1)))
    (option_zip (texts_in v w) (option_zip (text_in x) (optional_int_in n)))
