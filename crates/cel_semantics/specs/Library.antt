-- Trusted by the headline.
-- The meaning of functions: the forms in which names may be called, and the answers of calls.
use Rattle.std.specs.Prelude.{ℕ, List, Bool, Option}
use Rattle.cel_patterns.specs.Book.{Book}
use Rattle.cel_value.specs.Data.{Data}
use Rattle.cel_semantics.specs.Outcome.{Outcome}
use Rattle.cel_semantics.specs.declared.functions.Form.{Form}

pub record Library : Type 0 where
  -- whether a name may be called with or without a receiver and with this number of arguments
  pub form_of : List ℕ → Bool → ℕ → Form
  -- the answer of a call of a known form with this receiver and these arguments, under a book
  pub answer_of : List ℕ → Option Data → List Data → Book → Outcome
