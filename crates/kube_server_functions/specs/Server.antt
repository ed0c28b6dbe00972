-- Trusted by the clauses of other library calls.
-- The set of functions of an API server: first those of the table, then the calls that it answers in
-- another way, then those that take a pattern, then all of `kube_functions`.
-- Of these last, some answer otherwise than those of an API server; the README names the list.
use Rattle.std.specs.Prelude.{ℕ, List, length, Bool, true, false, Option, Some, None, is_some, if◌then◌else◌}
use Rattle.std.specs.Option.{unwrap_or}
use Rattle.cel_patterns.specs.Book.{Book}
use Rattle.cel_value.specs.Data.{Data}
use Rattle.cel_semantics.specs.Library.{Library}
use Rattle.cel_semantics.specs.Outcome.{Outcome}
use Rattle.cel_semantics.specs.declared.functions.Form.{Form}
use Rattle.cel_semantics.specs.declared.functions.Form.TheVariants.{Unknown, Wrong, Known}
use Rattle.cel_stdlib.specs.Standard.{first_operand, second_operand}
use Rattle.kube_functions.specs.Kube.{kube_form, kube_answer}
use Rattle.kube_functions.specs.Operands.{third_operand}
use Rattle.kube_server_functions.specs.Calls.{answer}
use Rattle.kube_server_functions.specs.Changed.{changed}
use Rattle.kube_server_functions.specs.Patterns.{answer_by_pattern, pattern_in}
use Rattle.kube_server_functions.specs.Table.{is_named, known_function}
use Rattle.kube_server_functions.specs.declared.functions.Function.{Function}

-- the form of a call for the other functions, if this set has the name, too, but not the form
abbrev pub form_beside : Bool → Form → Form
form_beside true Unknown = Wrong
form_beside named form = form

abbrev pub server_form : List ℕ → Bool → ℕ → Form
server_form name receiver count =
    if is_some (known_function name receiver count) then Known
    else form_beside (is_named name) (kube_form name receiver count)

-- the answer to a call that isn't changed, by its text and pattern, if it takes them
abbrev pub unchanged_answer : List ℕ → Option Data → List Data → Option (Data × List ℕ) → Book → Outcome
unchanged_answer name receiver args (Some found) book =
    answer_by_pattern name found.0 found.1 (third_operand receiver args) book
unchanged_answer name receiver args None book = kube_answer name receiver args book

-- the answer to a call of another function
abbrev pub other_answer : List ℕ → Option Data → List Data → Book → Outcome
other_answer name receiver args book =
    unwrap_or (changed name (first_operand receiver args) (second_operand receiver args) (third_operand receiver args))
    (unchanged_answer name receiver args
    (pattern_in name (first_operand receiver args) (second_operand receiver args)) book)

-- the answer, given the function of the table that is called, if any
abbrev pub answer_by : Option Function → List ℕ → Option Data → List Data → Book → Outcome
answer_by (Some f) name receiver args book =
    answer f name (first_operand receiver args) (second_operand receiver args) (third_operand receiver args)
answer_by None name receiver args book = other_answer name receiver args book

abbrev pub server_answer : List ℕ → Option Data → List Data → Book → Outcome
server_answer name receiver args book =
    answer_by (known_function name (is_some receiver) (length args)) name receiver args book

abbrev pub server_library : Library
server_library = record { form_of = server_form; answer_of = server_answer }
