-- Trusted by the headline.
-- The standard functions: the forms in which each may be called, and its answers.
use Rattle.std.specs.Prelude.{ℕ, List, Bool, Option, Some, None, Err, if◌then◌else◌}
use Rattle.std.specs.Option.{option_map_or}
use Rattle.cel_patterns.specs.Book.{Book}
use Rattle.cel_value.specs.Data.{Data}
use Rattle.cel_value.specs.Faults.{no_overload}
use Rattle.cel_value.specs.View.{items_of}
use Rattle.cel_semantics.specs.Library.{Library}
use Rattle.cel_semantics.specs.Members.{nth_item}
use Rattle.cel_semantics.specs.Outcome.{Outcome}
use Rattle.cel_semantics.specs.declared.functions.Form.{Form}
use Rattle.cel_semantics.specs.declared.functions.Form.TheVariants.{Unknown, Wrong, Known}
use Rattle.cel_stdlib.specs.Conversions.{int_of, uint_of, string_of, bytes_of, timestamp_of, duration_of}
use Rattle.cel_stdlib.specs.Extremes.{extreme_of, values_among}
use Rattle.cel_stdlib.specs.Optionals.{has_value, value_of}
use Rattle.cel_stdlib.specs.Sizes.{size_outcome}
use Rattle.cel_stdlib.specs.Table.{function_named, takes}
use Rattle.cel_stdlib.specs.Strings.{contains, begins, ends, matches}
use Rattle.cel_stdlib.specs.declared.names.OfOne.{OfOne}
use Rattle.cel_stdlib.specs.declared.names.OfOne.TheVariants.{Size, Int, Uint, String, Bytes, Timestamp, Duration, HasValue, Value}
use Rattle.cel_stdlib.specs.declared.names.OfTwo.{OfTwo}
use Rattle.cel_stdlib.specs.declared.names.OfTwo.TheVariants.{Contains, StartsWith, EndsWith, Matches}
use Rattle.cel_stdlib.specs.declared.names.Function.{Function}
use Rattle.cel_stdlib.specs.declared.names.Function.TheVariants.{One, Two, Many}

abbrev pub known_if : Bool → Form
known_if b = if b then Known else Wrong

abbrev pub standard_form : List ℕ → Bool → ℕ → Form
standard_form name receiver count =
    option_map_or (λ f. known_if (takes f receiver count)) (function_named name) Unknown

abbrev pub answer_of_one : OfOne → Data → Outcome
answer_of_one Size v = size_outcome v
answer_of_one Int v = int_of v
answer_of_one Uint v = uint_of v
answer_of_one String v = string_of v
answer_of_one Bytes v = bytes_of v
answer_of_one Timestamp v = timestamp_of v
answer_of_one Duration v = duration_of v
answer_of_one HasValue v = has_value v
answer_of_one Value v = value_of v

abbrev pub answer_of_two : OfTwo → Data → Data → Book → Outcome
answer_of_two Contains v w book = contains v w
answer_of_two StartsWith v w book = begins v w
answer_of_two EndsWith v w book = ends v w
answer_of_two Matches v w book = matches v w book

-- the operands are the receiver, if any, then the arguments
abbrev pub first_operand : Option Data → List Data → Option Data
first_operand (Some v) args = Some v
first_operand None args = nth_item 0 (items_of args)

abbrev pub second_operand : Option Data → List Data → Option Data
second_operand (Some v) args = nth_item 0 (items_of args)
second_operand None args = nth_item 1 (items_of args)

-- the answer, if both operands are there
abbrev pub answer_of_both : OfTwo → List ℕ → Option Data → Option Data → Book → Outcome
answer_of_both f name (Some v) (Some w) book = answer_of_two f v w book
answer_of_both f name _ _ book = Err (no_overload name)

abbrev pub answer_of : Function → List ℕ → Option Data → List Data → Book → Outcome
answer_of (One f) name receiver args book =
    option_map_or (answer_of_one f) (first_operand receiver args) (Err (no_overload name))
answer_of (Two f) name receiver args book =
    answer_of_both f name (first_operand receiver args) (second_operand receiver args) book
answer_of (Many end) name receiver args book = extreme_of end (values_among args)

abbrev pub standard_answer : List ℕ → Option Data → List Data → Book → Outcome
standard_answer name receiver args book =
    option_map_or (λ f. answer_of f name receiver args book) (function_named name) (Err (no_overload name))

abbrev pub standard_library : Library
standard_library = record { form_of = standard_form; answer_of = standard_answer }
