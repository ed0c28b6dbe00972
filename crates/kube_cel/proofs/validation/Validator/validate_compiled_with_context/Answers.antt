use Rattle.cel.specs.Entries.{entries_of}
use Rattle.kube_cel.proofs.Reports.{agrees_itself, if_ok_both, shown_is_book}
use Rattle.kube_cel.proofs.validation.Validator.validate_compiled_with_context.Goals as goal

pub returns : goal.returns
returns c = record {
  answer =
      let b = entries_of c.validate_compiled_in.new.book in
      if_ok_both c.validate_compiled_in.result
      (λ r answer places. λ s e. (b, shown_is_book c.validate_compiled_in.new.book, answer b (agrees_itself b) s e, places b (agrees_itself b) s e))
      c.validate_compiled_in.ensures.answer c.validate_compiled_in.ensures.places;
}
