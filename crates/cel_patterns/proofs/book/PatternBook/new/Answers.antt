use Rattle.std.proofs.Common.{rules}
use Rattle.cel_patterns.specs.Entries.{entries_of}
use Rattle.cel_patterns.proofs.Books.{empty-IsPlain}
use Rattle.cel_patterns.proofs.Entries.{entries-IsBook}
use Rattle.cel_patterns.proofs.book.PatternBook.new.Goals as goal

pub returns-clause-empty : goal.returns-clause-empty
unfolding entries_of
returns-clause-empty c = search rules

pub returns-clause-book : goal.returns-clause-book
returns-clause-book c = entries-IsBook _

pub returns-clause-plain : goal.returns-clause-plain
returns-clause-plain c = empty-IsPlain _ (returns-clause-empty c)
