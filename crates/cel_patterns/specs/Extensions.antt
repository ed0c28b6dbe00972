-- Trusted by the clauses of other library calls.
-- Answers that depend on a book and hold for every extension of it.
use Rattle.std.specs.Prelude.{◌≡◌}
use Rattle.cel_patterns.specs.Book.{Book, Extends}

-- r equals f b for every book b that has the entries of known
pub record HoldsForExtensions {A : Type 0} (known : Book) (r : A) (f : Book → A) : Type 0 where
  pub under : (b : Book) → Extends b known → r ≡ f b
