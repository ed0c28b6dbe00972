use Rattle.std.proofs.Common.{◌∙◌, sym, ap}
use Rattle.cel_patterns.specs.Built.{Answers, book_of}
use Rattle.cel_patterns.specs.Entries.{entries_of}
use Rattle.cel_patterns.proofs.Books.{Extends-refl, Extends-trans}
use Rattle.cel_patterns.proofs.Entries.{entries-agree, entries-same}
use Rattle.cel_patterns.proofs.Answered.{agrees_insert, agrees_same, at_key, faithful_after, new_or_same, others_insert, same_entries}
use Rattle.cel_patterns.proofs.book.PatternBook.build.Goals as goal

pub returns-in_err-slot-clause-kept : goal.returns-in_err-slot-clause-kept
returns-in_err-slot-clause-kept c = entries-agree _ _ _ c.in_err-slot.ensures.same (Extends-refl _)

pub returns-in_err-slot-clause-others : goal.returns-in_err-slot-clause-others
returns-in_err-slot-clause-others c = λ text other. entries-same _ _ c.in_err-slot.ensures.same text

pub returns-in_err-key-clause-kept : goal.returns-in_err-key-clause-kept
returns-in_err-key-clause-kept c = entries-agree _ _ _ c.in_ok-slot.ensures.same (Extends-refl _)

pub returns-in_err-key-clause-others : goal.returns-in_err-key-clause-others
returns-in_err-key-clause-others c = λ text other. entries-same _ _ c.in_ok-slot.ensures.same text

pub invariant_of-self : goal.invariant_of-self
invariant_of-self c = record {
  faithful = faithful_after c.slot_of.new.self.answers c.insert.new.self c.in_ok-key.key c.in_ok-slot.slot c.args.pattern.now c.insert.result c.insert.ensures.updates c.insert.ensures.err c.in_ok-key.ensures.ok c.in_ok-slot.ensures.reads c.slot_of.new.self.faithful;
  few = c.slot_of.new.self.few;
}

pub returns-in_err-insert-clause-kept : goal.returns-in_err-insert-clause-kept
unfolding entries_of
returns-in_err-insert-clause-kept c = agrees_same _ _ (λ text.
    same_entries c.slot_of.new.self.answers c.insert.new.self c.in_err-insert.ensures.err text ∙ ap (λ (m : Answers). book_of m text) c.in_ok-slot.ensures.same)

pub returns-in_err-insert-clause-others : goal.returns-in_err-insert-clause-others
unfolding entries_of
returns-in_err-insert-clause-others c = λ text other.
    same_entries c.slot_of.new.self.answers c.insert.new.self c.in_err-insert.ensures.err text ∙ ap (λ (m : Answers). book_of m text) c.in_ok-slot.ensures.same

pub returns-clause-kept : goal.returns-clause-kept
unfolding entries_of
returns-clause-kept c = Extends-trans
    (agrees_insert c.slot_of.new.self.answers c.insert.new.self c.in_ok-key.key c.in_ok-slot.slot c.in_ok-insert.ensures.updates
    (rw (c.in_ok-key.ensures.ok, c.in_ok-slot.ensures.same) (new_or_same c.args.again c.in_ok-slot.slot _ c.requires c.in_ok-slot.ensures.again)))
    (agrees_same _ _ (λ text. ap (λ (m : Answers). book_of m text) c.in_ok-slot.ensures.same))

pub returns-clause-others : goal.returns-clause-others
unfolding entries_of
returns-clause-others c = λ text other.
    others_insert c.slot_of.new.self.answers c.insert.new.self c.in_ok-key.key c.in_ok-slot.slot c.in_ok-insert.ensures.updates text (λ e. other (e ∙ c.in_ok-key.ensures.ok))
    ∙ ap (λ (m : Answers). book_of m text) c.in_ok-slot.ensures.same

pub returns-clause-answer : goal.returns-clause-answer
unfolding entries_of
returns-clause-answer c =
    ap (book_of c.insert.new.self) (sym c.in_ok-key.ensures.ok) ∙ at_key c.slot_of.new.self.answers c.insert.new.self c.in_ok-key.key c.in_ok-slot.slot c.in_ok-insert.ensures.updates
