-- Trusted by the headline.
-- The sets of functions: the standard one, and the one that also has the functions of
-- Kubernetes (Kubernetes documentation, "CEL in Kubernetes"). A call that the standard
-- knows has the standard answer, except for `string` of an IP address or a CIDR.
use Rattle.std.specs.Prelude.{ℕ, ◌||◌, List, length, Bool, true, false, Option, is_some, Err, if◌then◌else◌}
use Rattle.std.specs.Option.{option_map_or}
use Rattle.cel_patterns.specs.Book.{Book}
use Rattle.cel_value.specs.Data.{Data}
use Rattle.cel_value.specs.Faults.{no_overload}
use Rattle.cel_semantics.specs.Library.{Library}
use Rattle.cel_semantics.specs.Outcome.{Outcome}
use Rattle.cel_semantics.specs.declared.functions.Form.{Form}
use Rattle.cel_semantics.specs.declared.functions.Form.TheVariants.{Unknown, Wrong, Known}
use Rattle.cel_stdlib.specs.Standard.{standard_form, standard_answer, standard_library}
use Rattle.kube_functions_types.specs.Strings as address_texts
use Rattle.kube_functions.specs.Calls.{answer_of}
use Rattle.kube_functions.specs.Overloads.{address_operand}
use Rattle.kube_functions.specs.Table.{function_named, takes}
use Rattle.kube_functions.specs.declared.sets.KubeFunctions.{KubeFunctions}
use Rattle.kube_functions.specs.declared.sets.KubeFunctions.TheVariants.{Standard, All}

-- ---- forms

-- whether Kubernetes adds a function that may be called by this name and in this form
abbrev pub is_taken : List ℕ → Bool → ℕ → Bool
is_taken name receiver count = option_map_or (λ d. takes d count) (function_named name receiver) false

-- whether Kubernetes adds a function with this name
abbrev pub is_added : List ℕ → Bool
is_added name = is_some (function_named name true) || is_some (function_named name false)

abbrev pub added_form : List ℕ → Bool → ℕ → Form
added_form name receiver count =
    if is_taken name receiver count then Known else (if is_added name then Wrong else Unknown)

-- the form of a call for two sets together: known if one
-- of them knows it, else wrong if one of them has the name
abbrev pub either_form : Form → Form → Form
either_form Known other = Known
either_form Wrong Known = Known
either_form Wrong Wrong = Wrong
either_form Wrong Unknown = Wrong
either_form Unknown other = other

abbrev pub kube_form : List ℕ → Bool → ℕ → Form
kube_form name receiver count =
    either_form (standard_form name receiver count) (added_form name receiver count)

-- ---- answers

abbrev pub added_answer : List ℕ → Option Data → List Data → Book → Outcome
added_answer name receiver args book =
    option_map_or (λ d. answer_of d.function name receiver args book) (function_named name (is_some receiver))
    (Err (no_overload name))

-- the standard answer, except for `string` of an IP address or a CIDR
abbrev pub kept_answer : List ℕ → Option Data → List Data → Book → Outcome
kept_answer name receiver args book =
    option_map_or address_texts.string_of (address_operand name receiver args)
    (standard_answer name receiver args book)

-- the answer to a call, given its form in the standard: that of the
-- standard if it knows the call, else that of the added function
abbrev pub answer_by : Form → List ℕ → Option Data → List Data → Book → Outcome
answer_by Known name receiver args book = kept_answer name receiver args book
answer_by Wrong name receiver args book = added_answer name receiver args book
answer_by Unknown name receiver args book = added_answer name receiver args book

abbrev pub kube_answer : List ℕ → Option Data → List Data → Book → Outcome
kube_answer name receiver args book =
    answer_by (standard_form name (is_some receiver) (length args)) name receiver args book

-- ---- the sets

abbrev pub all_library : Library
all_library = record { form_of = kube_form; answer_of = kube_answer }

abbrev pub kube_library : KubeFunctions → Library
kube_library Standard = standard_library
kube_library All = all_library
