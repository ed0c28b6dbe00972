-- Trusted by laws alone.
-- Books compared by what they refuse.
use Rattle.std.specs.Prelude.{ℕ, List}
use Rattle.cel.specs.Book.{Book, IsRefused}

-- the first book refuses only texts that the second one refuses
abbrev pub RefusesNoMore : Book → Book → Type 0
RefusesNoMore lenient strict = (text : List ℕ) → IsRefused lenient text → IsRefused strict text
