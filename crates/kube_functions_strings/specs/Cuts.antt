-- Scaffolding: only proofs and private clauses cite it.
-- Texts cut at their offsets, and around the parts that occur in them.
use Rattle.std.specs.Prelude.{◌≡◌, ℕ, zero, suc, ◌-◌, ◌<◌, ◌≤◌, nat_lt, nat_le, ℤ, pos, negsuc, Bool, true, false, List, [], ◌∷◌, ◌++◌, length, map, take, drop, Option, Some, None, option_map, if◌then◌else◌}
use Rattle.std.specs.List.{range_with_len}
use Rattle.std.specs.Str.{chars, encode_utf8_all, IsUtf8}
use Rattle.kube_functions_strings.specs.Pieces.{spans_among, around}
use Rattle.kube_functions_strings.specs.Offsets.{offset_within, stands_at}

-- ---- offsets

-- `rest` follows the first k characters of a text
pub record IsPast (text : List ℕ) (k : ℕ) (rest : List ℕ) : Type 0 where
  pub within : k ≤ length (chars text)
  pub whole : text ≡ encode_utf8_all (take k (chars text)) ++ rest
  pub later : chars rest ≡ drop k (chars text)
  pub utf8 : IsUtf8 rest

-- the characters before an offset and those from it on, or none if the text ends before it
abbrev pub around_offset : List ℕ → ℕ → Option (List ℕ × List ℕ)
around_offset cs k = if nat_le k (length cs) then Some (take k cs, drop k cs) else None

-- the int as an offset, or none if it is negative
abbrev pub offset_of : ℤ → Option ℕ
offset_of (pos k) = Some k
offset_of (negsuc k) = None

-- the int as an offset into the text, with the characters from there on
abbrev pub from_index : List ℕ → ℤ → Option (ℕ × List ℕ)
from_index cs i = option_map (λ k. (k, drop k cs)) (offset_within 0 (length cs) i)

-- ---- parts

-- the part occurs at no offset from n on
abbrev pub StandsNowhere : ℕ → List ℕ → List ℕ → Type 0
StandsNowhere n cs part = (k : ℕ) → n ≤ k → k ≤ length cs → stands_at cs part k ≡ false

-- the first offset from n on at which the part occurs
-- lies between the characters `before` and `behind`
abbrev pub StandsFirst : ℕ → List ℕ → List ℕ → List ℕ → List ℕ → Type 0
StandsFirst n cs part before behind =
    (cs ≡ before ++ (part ++ behind)) × (n ≤ length before)
    × ((k : ℕ) → n ≤ k → k < length before → stands_at cs part k ≡ false)

-- the last offset at which the part occurs lies between the characters `before` and `behind`
abbrev pub StandsLast : List ℕ → List ℕ → List ℕ → List ℕ → Type 0
StandsLast cs part before behind = (cs ≡ before ++ (part ++ behind))
    × ((k : ℕ) → length before < k → k ≤ length cs → stands_at cs part k ≡ false)

-- ---- separators

-- the limit allows one more separator after the first m
abbrev pub has_room : Option ℕ → ℕ → Bool
has_room None m = true
has_room (Some n) m = nat_lt m n

-- the separators left within the limit, after the first m
abbrev pub left_of : {A : Type 0} → Option ℕ → ℕ → List A → List A
left_of None m ps = ps
left_of (Some n) m ps = take (n - m) ps

-- the minimum number of characters between the first m separators
-- and the next one: an empty separator occurs once at each offset
abbrev pub characters_passed : List ℕ → ℕ → ℕ
characters_passed [] zero = 0
characters_passed [] (suc m) = 1
characters_passed (c ∷ part) m = 0

-- the pieces of the text that follows the first m separators
abbrev pub pieces_behind : List ℕ → List ℕ → Option ℕ → ℕ → List (List ℕ)
pieces_behind cs part limit m =
    map encode_utf8_all (around cs 0 (left_of limit m (spans_among cs part 0
    (range_with_len (characters_passed part m) (suc (length cs) - characters_passed part m)))))
