-- Trusted by the headline.
-- Offsets of bytes in a text.
use Rattle.std.specs.Prelude.{ℕ, ◌+◌, ◌==◌, Bool, List, [], ◌∷◌, Option, Some, None, if◌then◌else◌}
use Rattle.std.specs.List.{list_any}

-- the byte is one of the marks
unfoldable pub is_one_of : List ℕ → ℕ → Bool
is_one_of marks c = list_any (λ mark. mark == c) marks

abbrev pub later_or_first : Option ℕ → Bool → Option ℕ
later_or_first None here = if here then Some 0 else None
later_or_first (Some i) here = Some (i + 1)

-- the offset of the last byte that is one of the marks
unfoldable pub last_offset : List ℕ → List ℕ → Option ℕ
last_offset marks [] = None
last_offset marks (c ∷ cs) = later_or_first (last_offset marks cs) (is_one_of marks c)
