-- Both sets of functions keep their values under a book that refuses no more.
use Rattle.cel.specs.Book.{Book, matched_by, found_by}
use Rattle.cel.specs.Bindings.{Bindings}
use Rattle.cel.specs.Meaning.{meaning}
use Rattle.cel.specs.Form.{Form}
use Rattle.cel.specs.Form.TheVariants.{Unknown, Wrong, Known}
use Rattle.cel.specs.Standard as standard
use Rattle.cel.specs.Standard.{standard_form, standard_answer, first_operand, second_operand}
use Rattle.cel.specs.Strings as strings
use Rattle.cel.specs.Strings.{pattern_found, refused_pattern}
use Rattle.cel.specs.Table.{function_named as standard_function_named}
use Rattle.cel.specs.Function as standard_function
use Rattle.cel.specs.Function.TheVariants.{One, Two, Many}
use Rattle.cel.specs.OfTwo.{OfTwo}
use Rattle.cel.specs.OfTwo.TheVariants.{Contains, StartsWith, EndsWith, Matches}
use Rattle.cel_syntax.specs.Term.{Term}
use Rattle.cel_value.specs.Data.{Data, bool}
use Rattle.cel_value.specs.Faults.{no_overload, invalid_pattern}
use Rattle.kube_cel_laws.proofs.Books.{match_kept, spans_kept}
use Rattle.kube_cel_laws.proofs.Results.{Keeps, keeps_itself, kept_value, made_kept, operands_kept}
use Rattle.kube_cel_laws.proofs.Rows.{AnswersKept, EachRow, all_same, by_operands, filtered_rows, found_row, if_found_kept, same_then}
use Rattle.kube_cel_laws.proofs.Trees.{meaning_kept}
use Rattle.kube_cel_laws.specs.Books.{RefusesNoMore}
use Rattle.kube_functions.specs.Calls.{answer_by_library, answer_of}
use Rattle.kube_functions.specs.Kube.{added_answer, answer_by, kube_answer, kube_library}
use Rattle.kube_functions.specs.Operands.{fourth_operand, third_operand}
use Rattle.kube_functions.specs.Overloads.{address_operand}
use Rattle.kube_functions.specs.Table.{function_named, functions, globals, methods}
use Rattle.kube_functions.specs.declared.sets.KubeFunctions.{KubeFunctions}
use Rattle.kube_functions.specs.declared.sets.KubeFunctions.TheVariants.{Standard, All}
use Rattle.kube_functions.specs.StringsOperands.{optional_int_in, texts_in}
use Rattle.kube_functions.specs.StringsRegex.{each_found, find_all_outcome, find_outcome, first_found, first_match, limit_of, match_texts}
use Rattle.kube_functions.specs.TypesStrings.{string_of}
use Rattle.std.proofs.Common.{◌≡◌, ℕ, List, length, Bool, true, false, not, Option, Some, None, IfSome, is_some, Ok, codes, bytes_eq, drop, refl}
use Rattle.std.specs.Option.{option_map_or, option_zip}

module _ (strict lenient : Book) (no_more : RefusesNoMore lenient strict) where
  -- ---- the standard functions

  matches_kept : (v w : Data) → Keeps (strings.matches v w strict) (strings.matches v w lenient)
  matches_kept v w = operands_kept (λ p. pattern_found (matched_by strict p.1 p.0)) (λ p. pattern_found (matched_by lenient p.1 p.0)) (no_overload (codes "matches")) (strings.texts_in v w)
      (λ p. made_kept bool refused_pattern (matched_by strict p.1 p.0) (matched_by lenient p.1 p.0) (match_kept strict lenient no_more p.1 p.0))

  both_kept : (f : OfTwo) (name : List ℕ) (o p : Option Data) → Keeps (standard.answer_of_both f name o p strict) (standard.answer_of_both f name o p lenient)
  both_kept f name None p = tt
  both_kept f name (Some v) None = tt
  both_kept Contains name (Some v) (Some w) = keeps_itself (strings.contains v w)
  both_kept StartsWith name (Some v) (Some w) = keeps_itself (strings.begins v w)
  both_kept EndsWith name (Some v) (Some w) = keeps_itself (strings.ends v w)
  both_kept Matches name (Some v) (Some w) = matches_kept v w

  known_kept : (f : standard_function.Function) (name : List ℕ) (receiver : Option Data) (args : List Data) → Keeps (standard.answer_of f name receiver args strict) (standard.answer_of f name receiver args lenient)
  known_kept (One f) name receiver args = keeps_itself (standard.answer_of (One f) name receiver args strict)
  known_kept (Two f) name receiver args = both_kept f name (first_operand receiver args) (second_operand receiver args)
  known_kept (Many end) name receiver args = keeps_itself (standard.answer_of (Many end) name receiver args strict)

  standard_kept : (name : List ℕ) (receiver : Option Data) (args : List Data) → Keeps (standard_answer name receiver args strict) (standard_answer name receiver args lenient)
  standard_kept name receiver args = operands_kept (λ f. standard.answer_of f name receiver args strict) (λ f. standard.answer_of f name receiver args lenient) (no_overload name) (standard_function_named name)
      (λ f. known_kept f name receiver args)

  -- ---- the functions of Kubernetes

  find_kept : (v w : Data) → Keeps (find_outcome v w strict) (find_outcome v w lenient)
  find_kept v w = operands_kept (λ p. first_found p.0 p.1 strict) (λ p. first_found p.0 p.1 lenient) (no_overload (codes "find")) (texts_in v w)
      (λ p. made_kept (first_match p.0) (invalid_pattern (codes "find")) (found_by strict p.1 p.0 (Some 1)) (found_by lenient p.1 p.0 (Some 1)) (spans_kept strict lenient no_more p.1 p.0 (Some 1)))

  find_all_kept : (v w : Data) (n : Option Data) → Keeps (find_all_outcome v w n strict) (find_all_outcome v w n lenient)
  find_all_kept v w n = operands_kept (λ p. each_found p.0.0 p.0.1 (limit_of p.1) strict) (λ p. each_found p.0.0 p.0.1 (limit_of p.1) lenient) (no_overload (codes "findAll")) (option_zip (texts_in v w) (optional_int_in n))
      (λ p. made_kept (match_texts p.0.0) (invalid_pattern (codes "findAll")) (found_by strict p.0.1 p.0.0 (limit_of p.1)) (found_by lenient p.0.1 p.0.0 (limit_of p.1)) (spans_kept strict lenient no_more p.0.1 p.0.0 (limit_of p.1)))

  -- the rows of the table: 40 stand before those of the regex library
  rows_kept : EachRow functions (λ d. AnswersKept strict lenient (answer_by_library d.function))
  rows_kept = same_then strict lenient (λ d. answer_by_library d.function) 40 functions refl (
    by_operands strict lenient _ (λ name w x y args. tt) (λ name v x y args. tt) (λ name v w x y args. find_kept v w),
    (
      by_operands strict lenient _ (λ name w x y args. tt) (λ name v x y args. tt) (λ name v w x y args. find_all_kept v w x),
      all_same strict lenient (λ d. answer_by_library d.function) (drop 42 functions) refl,
    ),
  )

  named_kept : (name : List ℕ) (on_receiver : Bool) → IfSome (function_named name on_receiver) (λ d. AnswersKept strict lenient (answer_by_library d.function))
  named_kept name true = found_row (bytes_eq name) methods _ (filtered_rows (λ row. row.1.receiver) functions (λ d. AnswersKept strict lenient (answer_by_library d.function)) rows_kept)
  named_kept name false = found_row (bytes_eq name) globals _ (filtered_rows (λ row. not row.1.receiver) functions (λ d. AnswersKept strict lenient (answer_by_library d.function)) rows_kept)

  added_kept : (name : List ℕ) (receiver : Option Data) (args : List Data) → Keeps (added_answer name receiver args strict) (added_answer name receiver args lenient)
  added_kept name receiver args = if_found_kept (function_named name (is_some receiver)) _ (λ d. answer_of d.function name receiver args strict) (λ d. answer_of d.function name receiver args lenient) (no_overload name)
      (named_kept name (is_some receiver)) (λ d k. k.kept name (first_operand receiver args) (second_operand receiver args) (third_operand receiver args) (fourth_operand receiver args) args)

  -- `string` of an address uses no book
  unless_address : (name : List ℕ) (receiver : Option Data) (args : List Data) (o : Option Data)
      → Keeps (option_map_or string_of o (standard_answer name receiver args strict)) (option_map_or string_of o (standard_answer name receiver args lenient))
  unless_address name receiver args None = standard_kept name receiver args
  unless_address name receiver args (Some v) = keeps_itself (string_of v)

  by_form_kept : (form : Form) (name : List ℕ) (receiver : Option Data) (args : List Data) → Keeps (answer_by form name receiver args strict) (answer_by form name receiver args lenient)
  by_form_kept Known name receiver args = unless_address name receiver args (address_operand name receiver args)
  by_form_kept Wrong name receiver args = added_kept name receiver args
  by_form_kept Unknown name receiver args = added_kept name receiver args

  kube_kept : (name : List ℕ) (receiver : Option Data) (args : List Data) → Keeps (kube_answer name receiver args strict) (kube_answer name receiver args lenient)
  kube_kept name receiver args = by_form_kept (standard_form name (is_some receiver) (length args)) name receiver args

  -- ---- trees

  pub tree_kept : (functions : KubeFunctions) (t : Term) (e : Bindings) → Keeps (meaning (kube_library functions) strict t e) (meaning (kube_library functions) lenient t e)
  tree_kept Standard = meaning_kept (kube_library Standard) strict lenient standard_kept
  tree_kept All = meaning_kept (kube_library All) strict lenient kube_kept

  pub value_kept : (functions : KubeFunctions) (t : Term) (e : Bindings) (v : Data) → meaning (kube_library functions) strict t e ≡ Ok v → meaning (kube_library functions) lenient t e ≡ Ok v
  value_kept functions t e v = kept_value (meaning (kube_library functions) strict t e) (meaning (kube_library functions) lenient t e) v (tree_kept functions t e)
