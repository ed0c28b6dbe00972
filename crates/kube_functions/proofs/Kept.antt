-- Calls that the standard knows, in the set of all functions.
use Rattle.std.proofs.Common.{◌≡◌, ℕ, Bool, true, List, [], ◌∷◌, length, Option, Some, None, ap, ◌∙◌}
use Rattle.std.specs.Prelude.{codes, is_some, if◌then◌else◌}
use Rattle.std.specs.Option.{option_map_or}
use Rattle.cel_patterns.specs.Book.{Book}
use Rattle.cel_value.specs.Data.{Data}
use Rattle.cel_semantics.specs.declared.functions.Form.TheVariants.{Known}
use Rattle.cel_stdlib.specs.Standard.{standard_form, standard_answer}
use Rattle.kube_functions_types.specs.Strings.{string_of}
use Rattle.kube_functions.specs.Kube.{added_form, either_form, kube_form, answer_by, kube_answer}
use Rattle.kube_functions.specs.Overloads.{address_operand, is_address}

pub form_is_kept : (name : List ℕ) (receiver : Bool) (count : ℕ) → standard_form name receiver count ≡ Known → kube_form name receiver count ≡ Known
form_is_kept name receiver count h = ap (λ form. either_form form (added_form name receiver count)) h

pub answer_is_kept : (name : List ℕ) (receiver : Option Data) (args : List Data) (book : Book) → standard_form name (is_some receiver) (length args) ≡ Known
    → address_operand name receiver args ≡ None → kube_answer name receiver args book ≡ standard_answer name receiver args book
answer_is_kept name receiver args book h k =
    ap (λ form. answer_by form name receiver args book) h ∙ ap (λ o. option_map_or string_of o (standard_answer name receiver args book)) k

pub string_of_receiver : (v : Data) (book : Book) → is_address v ≡ true → kube_answer (codes "string") (Some v) [] book ≡ string_of v
string_of_receiver v book h = ap (λ b. option_map_or string_of (if b then Some v else None) (standard_answer (codes "string") (Some v) [] book)) h

pub string_of_argument : (v : Data) (book : Book) → is_address v ≡ true → kube_answer (codes "string") None (v ∷ []) book ≡ string_of v
string_of_argument v book h = ap (λ b. option_map_or string_of (if b then Some v else None) (standard_answer (codes "string") None (v ∷ []) book)) h
