-- The entries of a `PatternBook` form a book, and depend only on its answers.
use Rattle.std.proofs.Common.{◌≡◌, ◌∙◌, ap, ℕ, List}
use Rattle.cel_patterns.specs.Book.{Extends, Book, IsBook}
use Rattle.cel_patterns.specs.Built.{Answers, IsFaithful, book_of}
use Rattle.cel_patterns.specs.Entries.{entries_of}
use Rattle.cel_patterns.specs.declared.book.PatternBook.{PatternBook}

pub entries-IsBook : (b : PatternBook) → IsBook (entries_of b)
unfolding entries_of
entries-IsBook b = b.faithful

pub entries-same : (a b : PatternBook) → a.answers ≡ b.answers → (text : List ℕ) → entries_of a text ≡ entries_of b text
unfolding entries_of
entries-same a b same text = ap (λ (m : Answers). book_of m text) same

pub entries-agree : (a b : PatternBook) (earlier : Book) → a.answers ≡ b.answers → Extends (entries_of b) earlier → Extends (entries_of a) earlier
entries-agree a b earlier same h = record { keeps = λ text built e. entries-same a b same text ∙ h.keeps text built e }

pub faithful-IsBook : (answers : Answers) → IsFaithful answers → IsBook (book_of answers)
faithful-IsBook answers faithful = faithful
