-- Scaffolding: only proofs and private clauses cite it.
-- Lines and columns of offsets, both from 1. A newline ends a line; a column counts code points, of
-- which each has one byte that continues no other (RFC 3629, section 3).
use Rattle.std.specs.Prelude.{ℕ, ◌+◌, nat_eq, nat_le, nat_lt, ◌&&◌, if◌then◌else◌, Bool, List, [], ◌∷◌, take}

abbrev pub continues : ℕ → Bool
continues b = nat_le 128 b && nat_lt b 192

-- the line and the column behind a byte
abbrev pub line_after : ℕ → ℕ → ℕ
line_after l b = if nat_eq b 10 then l + 1 else l

abbrev pub column_after : ℕ → ℕ → ℕ
column_after c b = if nat_eq b 10 then 1 else (if continues b then c else c + 1)

-- and behind some bytes
abbrev pub line_from : ℕ → List ℕ → ℕ
line_from l [] = l
line_from l (b ∷ z) = line_from (line_after l b) z

abbrev pub column_from : ℕ → List ℕ → ℕ
column_from c [] = c
column_from c (b ∷ z) = column_from (column_after c b) z

abbrev pub line_at : List ℕ → ℕ → ℕ
line_at z n = line_from 1 (take n z)

abbrev pub column_at : List ℕ → ℕ → ℕ
column_at z n = column_from 1 (take n z)
