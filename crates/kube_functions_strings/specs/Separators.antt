-- Trusted by laws alone.
-- The separators of a text from the left, in the words of the documentation (Kubernetes
-- documentation, "CEL in Kubernetes", extended string library; documentation of CEL-Go, "Strings"):
-- each is the first that begins at or after the end of the one before it.
use Rattle.std.specs.Prelude.{◌≡◌, ◌+◌, ◌<◌, ◌≤◌, ℕ, List, [], ◌∷◌, length, true, false}
use Rattle.kube_functions_strings.specs.Offsets.{stands_at}

-- the spans are the separators from an offset on: the part occurs at the first span and nowhere
-- between that offset and the span, and the remaining spans are the separators from the end of the
-- first; if there is no span, the part occurs nowhere from that offset on
abbrev pub AreFromLeft : List ℕ → List ℕ → ℕ → List (ℕ × ℕ) → Type 0
AreFromLeft cs part from [] = (k : ℕ) → from ≤ k → stands_at cs part k ≡ false
AreFromLeft cs part from (p ∷ ps) =
    (from ≤ p.0) × ((k : ℕ) → from ≤ k → k < p.0 → stands_at cs part k ≡ false)
    × (stands_at cs part p.0 ≡ true) × (p.1 ≡ p.0 + length part) × AreFromLeft cs part p.1 ps
