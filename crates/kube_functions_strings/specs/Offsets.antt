-- Trusted by the headline.
-- Characters of a string by their offsets, and the offsets of one string in another (Kubernetes
-- documentation, "CEL in Kubernetes", extended string library; documentation of CEL-Go, "Strings":
-- `charAt`, `indexOf`, `lastIndexOf`, `substring`). Offsets count code points from 0 on.
use Rattle.std.specs.Prelude.{ℕ, zero, suc, ◌-◌, min, ℤ, pos, negsuc, nat_le, nat_eq, ◌&&◌, List, [], ◌∷◌, ◌++◌, length, drop, codes, Bool, Option, Some, None, Ok, Err, encode_utf8, slice_get, slice_range, decimal, if◌then◌else◌}
use Rattle.std.specs.Fmt.{signed_decimal}
use Rattle.std.specs.List.{starts_with, find, range_with_len}
use Rattle.std.specs.Option.{option_map_or, option_zip, unwrap_or}
use Rattle.std.specs.Str.{chars, encode_utf8_all}
use Rattle.cel_value.specs.Data.{Data, int, text}
use Rattle.cel_value.specs.Faults.{Fault, function_error}
use Rattle.cel_semantics.specs.Outcome.{Outcome}
use Rattle.kube_functions_strings.specs.Operands.{texts_in, text_and_int_in, optional_int_in, answer_with}

-- the int as an offset from low to high, or none if it is outside
abbrev pub offset_within : ℕ → ℕ → ℤ → Option ℕ
offset_within low high (pos k) = if nat_le low k && nat_le k high then Some k else None
offset_within low high (negsuc k) = None

-- the message that an index is out of range for a string of a given length
abbrev pub past_length : List ℕ → ℤ → ℕ → List ℕ
past_length what i n =
    what ++ (codes " " ++ (signed_decimal i ++ (codes " out of range for string of length " ++ decimal n)))

-- ---- charAt

-- the character as a text, which is empty if there is none
abbrev pub character_text : Option ℕ → List ℕ
character_text o = option_map_or encode_utf8 o []

abbrev pub no_character : ℤ → ℕ → Fault
no_character i n = function_error (codes "charAt") (past_length (codes "index") i n)

-- the character at an offset, which is empty at the end
abbrev pub character_at : List ℕ → ℤ → Outcome
character_at cs i =
    option_map_or (λ k. Ok (text (character_text (slice_get cs k)))) (offset_within 0 (length cs) i)
    (Err (no_character i (length cs)))

abbrev pub char_at : Data → Data → Outcome
char_at v w = answer_with (codes "charAt") (λ p. character_at (chars p.0) p.1) (text_and_int_in v w)

-- ---- substring

abbrev pub no_start : ℤ → ℕ → Fault
no_start i n = function_error (codes "substring") (past_length (codes "start index") i n)

abbrev pub no_end : ℤ → Fault
no_end i =
    function_error (codes "substring") (codes "end index " ++ signed_decimal i ++ codes " out of range")

-- the characters from one offset up to another
abbrev pub characters_up_to : List ℕ → ℕ → ℤ → Outcome
characters_up_to cs k b =
    option_map_or (λ m. Ok (text (encode_utf8_all (slice_range cs k m)))) (offset_within k (length cs) b)
    (Err (no_end b))

-- the characters from one offset up to another, or to the end of the text if that is absent
abbrev pub characters_between : List ℕ → ℤ → Option ℤ → Outcome
characters_between cs a b =
    option_map_or (λ k. characters_up_to cs k (unwrap_or b (pos (length cs)))) (offset_within 0 (length cs) a)
    (Err (no_start a (length cs)))

abbrev pub substring : Data → Data → Option Data → Outcome
substring v a b =
    answer_with (codes "substring") (λ p. characters_between (chars p.0.0) p.0.1 p.1)
    (option_zip (text_and_int_in v a) (optional_int_in b))

-- ---- indexOf, lastIndexOf

-- the int, or 0 if it is negative
abbrev pub at_least_zero : ℤ → ℕ
at_least_zero (pos n) = n
at_least_zero (negsuc n) = 0

-- the part occurs at an offset
abbrev pub stands_at : List ℕ → List ℕ → ℕ → Bool
stands_at cs part k = starts_with nat_eq (drop k cs) part

-- the lowest offset from k on at which the part occurs
abbrev pub offset_from : List ℕ → List ℕ → ℕ → Option ℕ
offset_from cs part k = find (stands_at cs part) (range_with_len k (suc (length cs) - k))

-- the highest number below n that passes a test
abbrev pub greatest_below : (ℕ → Bool) → ℕ → Option ℕ
greatest_below test zero = None
greatest_below test (suc n) = if test n then Some n else greatest_below test n

-- the number of offsets up to an int in a text of n characters
abbrev pub offsets_up_to : ℕ → ℤ → ℕ
offsets_up_to n (pos k) = suc (min k n)
offsets_up_to n (negsuc k) = 0

-- the offset, or -1 if there is none
abbrev pub or_no_offset : Option ℕ → ℤ
or_no_offset o = option_map_or pos o (negsuc 0)

-- the lowest offset from i on, with a negative i counted as 0; an empty part occurs at i itself
abbrev pub first_index : List ℕ → List ℕ → ℤ → ℤ
first_index cs [] i = pos (at_least_zero i)
first_index cs (c ∷ part) i = or_no_offset (offset_from cs (c ∷ part) (at_least_zero i))

-- the highest offset up to i; an empty part occurs at i itself, limited to the offsets of the text
abbrev pub last_index : List ℕ → List ℕ → ℤ → ℤ
last_index cs [] i = pos (min (at_least_zero i) (length cs))
last_index cs (c ∷ part) i =
    or_no_offset (greatest_below (stands_at cs (c ∷ part)) (offsets_up_to (length cs) i))

abbrev pub index_of : Data → Data → Option Data → Outcome
index_of v w i =
    answer_with (codes "indexOf")
    (λ p. Ok (int (first_index (chars p.0.0) (chars p.0.1) (unwrap_or p.1 (pos 0)))))
    (option_zip (texts_in v w) (optional_int_in i))

abbrev pub last_index_of : Data → Data → Option Data → Outcome
last_index_of v w i =
    answer_with (codes "lastIndexOf")
    (λ p. Ok (int (last_index (chars p.0.0) (chars p.0.1) (unwrap_or p.1 (pos (length (chars p.0.0)))))))
    (option_zip (texts_in v w) (optional_int_in i))
