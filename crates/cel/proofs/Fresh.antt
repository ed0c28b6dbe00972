-- What holds for the entries of a `PatternBook` holds for
-- some book, even after the `PatternBook` is gone.
use Rattle.std.proofs.Common.{Result, Ok, Err, IfOk}
use Rattle.cel_patterns.specs.Book.{Book, IsBook}
use Rattle.cel_patterns.specs.Entries.{entries_of}
use Rattle.cel_patterns.specs.declared.book.PatternBook.{PatternBook}
use Rattle.cel_patterns.proofs.Entries.{entries-IsBook}

pub for_some_book : {A E : Type 0} (P : A → Book → Type 0) (r : Result A E) (b : PatternBook) → IfOk r (λ a. P a (entries_of b)) → IfOk r (λ a. (x : Book) × IsBook x × P a x)
for_some_book P (Ok a) b h = (entries_of b, entries-IsBook b, h)
for_some_book P (Err e) b h = tt
