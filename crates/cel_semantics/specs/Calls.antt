-- Trusted by the headline.
-- The meaning of a call (CEL language definition, "Functions"). First the form of the call is
-- tested, then its receiver and its arguments are evaluated, then none of them may hold a double.
use Rattle.std.specs.Prelude.{ℕ, List, [], ◌∷◌, false, ◌||◌, Option, Some, None, Err, if◌then◌else◌}
use Rattle.std.specs.List.{list_any}
use Rattle.std.specs.Option.{option_map_or}
use Rattle.cel_patterns.specs.Book.{Book}
use Rattle.cel_value.specs.Data.{Data}
use Rattle.cel_value.specs.Faults.{undeclared, no_overload}
use Rattle.cel_value.specs.Same.{has_double}
use Rattle.cel_semantics.specs.Library.{Library}
use Rattle.cel_semantics.specs.Outcome.{Outcome, no_doubles}
use Rattle.cel_semantics.specs.declared.functions.Form.{Form}
use Rattle.cel_semantics.specs.declared.functions.Form.TheVariants.{Unknown, Wrong, Known}

-- the receiver, if any
abbrev pub receiver_of : List Data → Option Data
receiver_of [] = None
receiver_of (d ∷ ds) = Some d

abbrev pub by_form : Form → List ℕ → Outcome → Outcome
by_form Unknown name r = Err (undeclared name)
by_form Wrong name r = Err (no_overload name)
by_form Known name r = r

-- a call of a known form with these values
abbrev pub call_outcome : Library → Book → List ℕ → Option Data → List Data → Outcome
call_outcome library book name receiver vs =
    if option_map_or has_double receiver false || list_any has_double vs then Err no_doubles
    else library.answer_of name receiver vs book
