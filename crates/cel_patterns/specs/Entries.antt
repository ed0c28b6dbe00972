-- Trusted by the headline.
-- The book as which contracts see a `PatternBook`.
use Rattle.cel_patterns.specs.Book.{Book}
use Rattle.cel_patterns.specs.Built.{book_of}
use Rattle.cel_patterns.specs.declared.book.PatternBook.{PatternBook}

unfoldable pub entries_of : PatternBook → Book
entries_of book = book_of book.answers
