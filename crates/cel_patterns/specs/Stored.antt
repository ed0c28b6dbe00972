-- Scaffolding: only proofs and private clauses cite it.
-- The built patterns that a `PatternBook` keeps.
use Rattle.std.specs.Prelude.{◌≡◌, ℕ, ◌<◌, List, length, slice_index_or, string_bytes}
use Rattle.cel_patterns.specs.declared.pattern.Pattern.{Pattern}

-- the slot holds the pattern of the text
abbrev pub IsStoredAt : List Pattern → ℕ → List ℕ → Type 0
IsStoredAt patterns slot text = (slot < length patterns)
    × ((other : Pattern) → string_bytes (slice_index_or patterns slot other).text ≡ text)
