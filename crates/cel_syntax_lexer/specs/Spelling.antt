-- Trusted by the headline.
-- Predicates that describe a spelling part by part,
-- and the longest spelling at the front of a text.
use Rattle.std.specs.Prelude.{◌≡◌, ℕ, ◌+◌, ◌<◌, ◌≤◌, Bool, true, false, ◌&&◌, ◌||◌, if◌then◌else◌, nat_eq, List, [], ◌∷◌, length, take}

-- the end
abbrev pub is_end : List ℕ → Bool
is_end [] = true
is_end (b ∷ z) = false

-- this byte
abbrev pub is_byte : ℕ → ℕ → Bool
is_byte c b = nat_eq b c

-- one of these two bytes
abbrev pub is_either : ℕ → ℕ → ℕ → Bool
is_either c d b = nat_eq b c || nat_eq b d

-- the first byte is of the class
abbrev pub begins : (ℕ → Bool) → List ℕ → Bool
begins p [] = false
begins p (b ∷ z) = p b

-- one byte of the class, then a spelling of the second kind
abbrev pub one_then : (ℕ → Bool) → (List ℕ → Bool) → List ℕ → Bool
one_then p q [] = false
one_then p q (b ∷ z) = p b && q z

-- one or more bytes of the class, then a spelling of the second kind
unfoldable pub some_then : (ℕ → Bool) → (List ℕ → Bool) → List ℕ → Bool
some_then p q [] = false
some_then p q (b ∷ z) = p b && (q z || some_then p q z)

-- The longest of these spellings at the front has n
-- bytes; n is 0 if there is none but the empty one.
pub record LongestSpelling (p : List ℕ → Bool) (z : List ℕ) (n : ℕ) : Type 0 where
  pub fits : n ≤ length z
  pub is_one : 0 < n → p (take n z) ≡ true
  pub none_longer : (k : ℕ) → n < k → k ≤ length z → p (take k z) ≡ false

-- one byte longer, unless there is none
abbrev pub longer : ℕ → ℕ
longer n = if nat_eq n 0 then 0 else (1 + n)
