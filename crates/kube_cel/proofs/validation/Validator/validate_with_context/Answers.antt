use Rattle.cel.specs.Entries.{entries_of}
use Rattle.kube_cel.proofs.Reports.{agrees_itself, if_ok_both, shown_is_book}
use Rattle.kube_cel.proofs.validation.Validator.validate_with_context.Goals as goal

pub returns : goal.returns
returns c = record {
  answer =
      let b = entries_of c.validate_in.new.book in
      if_ok_both c.validate_in.result (λ r answer places. (b, shown_is_book c.validate_in.new.book, answer b (agrees_itself b), places b (agrees_itself b))) c.validate_in.ensures.answer c.validate_in.ensures.places;
}
