-- What trees mean under books that refuse the same texts.
use Rattle.kube_functions.proofs.Alike.{found_by-alike, matched_by-alike}
use Rattle.cel_patterns.specs.Book.{Book, IsRefused}
use Rattle.cel_semantics.specs.Bindings.{Bindings}
use Rattle.cel_semantics.specs.Calls.{receiver_of, by_form, call_outcome}
use Rattle.cel_syntax_ast.specs.Term.{is_there, Term, literal, ident, select, has, index, unary, binary, conditional, list_of, map_with, call, qualified, macro, Terms, no_terms, term_and, count_of, Pairs, no_pairs, pair_and}
use Rattle.cel_semantics.specs.Decisions.{truth, branch_outcome}
use Rattle.cel_semantics.specs.Library.{Library}
use Rattle.cel_semantics.specs.Macros.{macro_name, macro_of, iteration_result_of}
use Rattle.cel_semantics.specs.Meaning.{meaning, meanings, map_meaning, binary_of, strictly, entry_of}
use Rattle.cel_semantics.specs.Members.{selection, has_member, index_outcome}
use Rattle.cel_semantics.specs.Operators.{unary_outcome}
use Rattle.cel_semantics.specs.Outcome.{and_then, all_values, no_doubles}
use Rattle.cel_semantics.specs.Ranges.{range_of}
use Rattle.cel_semantics.specs.declared.functions.Form.{Form}
use Rattle.cel_semantics.specs.declared.functions.Form.TheVariants.{Unknown, Wrong, Known}
use Rattle.cel_stdlib.specs.Standard as standard
use Rattle.cel_stdlib.specs.Standard.{standard_form, standard_answer, first_operand, second_operand}
use Rattle.cel_stdlib.specs.Strings as strings
use Rattle.cel_stdlib.specs.Strings.{pattern_found}
use Rattle.cel_stdlib.specs.Table.{function_named as standard_function_named}
use Rattle.cel_stdlib.specs.declared.names.Function.{Function}
use Rattle.cel_stdlib.specs.declared.names.Function.TheVariants.{One, Two, Many}
use Rattle.cel_stdlib.specs.declared.names.OfTwo.{OfTwo}
use Rattle.cel_stdlib.specs.declared.names.OfTwo.TheVariants.{Contains, StartsWith, EndsWith, Matches}
use Rattle.cel_value.specs.Data.{Data, text_key, list, map_of, no_entries}
use Rattle.cel_value.specs.Faults.{no_overload}
use Rattle.cel_value.specs.Same.{has_double}
use Rattle.cel_value.specs.View.{items_of}
use Rattle.kube_functions.specs.Calls.{answer_of}
use Rattle.kube_functions.specs.Kube.{added_answer, answer_by, kube_answer, kube_library}
use Rattle.kube_functions.specs.Operands.{third_operand}
use Rattle.kube_functions.specs.Overloads.{address_operand}
use Rattle.kube_functions.specs.Regex as regex
use Rattle.kube_functions.specs.Table.{function_named}
use Rattle.kube_functions.specs.declared.functions.Function as function
use Rattle.kube_functions.specs.declared.functions.Function.TheVariants.{Strings, Lists, Math, Sets, Encoders, Regex, Net, Semver, Quantity, Url, Format}
use Rattle.kube_functions.specs.declared.libraries.regex.RegexFunction.{RegexFunction}
use Rattle.kube_functions.specs.declared.libraries.regex.RegexFunction.TheVariants.{Find, FindAll}
use Rattle.kube_functions.specs.declared.sets.KubeFunctions.{KubeFunctions}
use Rattle.kube_functions.specs.declared.sets.KubeFunctions.TheVariants.{Standard, All}
use Rattle.kube_functions_strings.specs.Operands.{answer_with, optional_int_in, texts_in}
use Rattle.kube_functions_strings.specs.Regex.{find_all_outcome, find_outcome, first_match, limit_of, match_texts, unless_refused}
use Rattle.kube_functions_types.specs.Strings.{string_of}
use Rattle.std.proofs.Common.{◌≡◌, ◌↔◌, ℕ, List, ◌∷◌, ◌||◌, map, length, false, Option, Some, None, Ok, Err, codes, if◌then◌else◌, refl, ap}
use Rattle.std.specs.List.{list_any}
use Rattle.std.specs.Option.{option_map_or, option_zip}
use Rattle.std.specs.Prelude.{is_some}

-- ---- a tree means the same if all calls have the same answers

module _ (library : Library) (a b : Book) (same : (name : List ℕ) (receiver : Option Data) (args : List Data) → library.answer_of name receiver args a ≡ library.answer_of name receiver args b) where
  call_same : (name : List ℕ) (receiver : Option Data) (args : List Data) → call_outcome library a name receiver args ≡ call_outcome library b name receiver args
  call_same name receiver args = ap (λ r. if option_map_or has_double receiver false || list_any has_double args then Err no_doubles else r) (same name receiver args)

  mutual
    pub meaning_same : (t : Term) (e : Bindings) → meaning library a t e ≡ meaning library b t e
    meaning_same (literal v) e = refl
    meaning_same (ident x) e = refl
    meaning_same (select t x) e = ap (λ r. and_then r (λ v. selection (text_key x) v)) (meaning_same t e)
    meaning_same (has t x) e = ap (λ r. and_then r (λ v. has_member (text_key x) v)) (meaning_same t e)
    meaning_same (index t u) e = λ i. strictly index_outcome (meaning_same t e i) (meaning_same u e i)
    meaning_same (unary op t) e = ap (λ r. and_then r (λ v. unary_outcome op v)) (meaning_same t e)
    meaning_same (binary op t u) e = λ i. binary_of op (meaning_same t e i) (meaning_same u e i)
    meaning_same (conditional t u v) e = λ i. branch_outcome (truth (codes "?:") (meaning_same t e i)) (meaning_same u e i) (meaning_same v e i)
    meaning_same (list_of ts) e = λ i. and_then (all_values (meanings_same ts e i)) (λ vs. Ok (list (items_of vs)))
    meaning_same (map_with ps) e = map_meaning_same ps e (map_of no_entries)
    meaning_same (call target name args) e = λ i. by_form (library.form_of name (is_there target) (count_of args)) name
        (and_then (all_values (meanings_same target e i)) (λ rs. and_then (all_values (meanings_same args e i)) (λ vs. call_same name (receiver_of rs) vs i)))
    meaning_same (qualified name args) e = λ i. by_form (library.form_of name false (count_of args)) name
        (and_then (all_values (meanings_same args e i)) (λ vs. call_same name None vs i))
    meaning_same (macro kind range x filter body) e = λ i. and_then (meaning_same range e i) (λ v. and_then (range_of (macro_name kind) v)
        (λ items. macro_of kind (map (λ d. meaning_same body ((x, d) ∷ e) i) items)
        (map (λ d. iteration_result_of kind d (meanings_same filter ((x, d) ∷ e) i) (meaning_same body ((x, d) ∷ e) i)) items)))

    meanings_same : (ts : Terms) (e : Bindings) → meanings library a ts e ≡ meanings library b ts e
    meanings_same no_terms e = refl
    meanings_same (term_and t ts) e = λ i. meaning_same t e i ∷ meanings_same ts e i

    map_meaning_same : (ps : Pairs) (e : Bindings) (m : Data) → map_meaning library a ps e m ≡ map_meaning library b ps e m
    map_meaning_same no_pairs e m = refl
    map_meaning_same (pair_and k v ps) e m = λ i. and_then (entry_of (meaning_same k e i) (meaning_same v e i) m) (λ n. map_meaning_same ps e n i)

-- ---- both sets have the same answers under books that refuse the same texts

module _ (a b : Book) (alike : (text : List ℕ) → IsRefused a text ↔ IsRefused b text) where
  matches_same : (v w : Data) → strings.matches v w a ≡ strings.matches v w b
  matches_same v w = λ i. option_map_or (λ p. pattern_found (matched_by-alike a b p.1 p.0 (alike p.1) i)) (strings.texts_in v w) (Err (no_overload (codes "matches")))

  both_same : (f : OfTwo) (name : List ℕ) (o p : Option Data) → standard.answer_of_both f name o p a ≡ standard.answer_of_both f name o p b
  both_same f name None p = refl
  both_same f name (Some v) None = refl
  both_same Contains name (Some v) (Some w) = refl
  both_same StartsWith name (Some v) (Some w) = refl
  both_same EndsWith name (Some v) (Some w) = refl
  both_same Matches name (Some v) (Some w) = matches_same v w

  standard_same : (name : List ℕ) (receiver : Option Data) (args : List Data) → standard_answer name receiver args a ≡ standard_answer name receiver args b
  standard_same name receiver args = by (standard_function_named name)
    where
      by : (o : Option Function) → option_map_or (λ f. standard.answer_of f name receiver args a) o (Err (no_overload name))
          ≡ option_map_or (λ f. standard.answer_of f name receiver args b) o (Err (no_overload name))
      by None = refl
      by (Some (One f)) = refl
      by (Some (Two f)) = both_same f name (first_operand receiver args) (second_operand receiver args)
      by (Some (Many end)) = refl

  find_same : (v w : Data) → find_outcome v w a ≡ find_outcome v w b
  find_same v w = λ i. answer_with (codes "find") (λ p. unless_refused (codes "find") (first_match p.0) (found_by-alike a b p.1 p.0 (Some 1) (alike p.1) i)) (texts_in v w)

  find_all_same : (v w : Data) (n : Option Data) → find_all_outcome v w n a ≡ find_all_outcome v w n b
  find_all_same v w n = λ i. answer_with (codes "findAll")
      (λ p. unless_refused (codes "findAll") (match_texts p.0.0) (found_by-alike a b p.0.1 p.0.0 (limit_of p.1) (alike p.0.1) i)) (option_zip (texts_in v w) (optional_int_in n))

  regex_same : (f : RegexFunction) (name : List ℕ) (v w x : Option Data) → regex.answer f name v w x a ≡ regex.answer f name v w x b
  regex_same Find name None w x = refl
  regex_same Find name (Some v) None x = refl
  regex_same Find name (Some v) (Some w) x = find_same v w
  regex_same FindAll name None w x = refl
  regex_same FindAll name (Some v) None x = refl
  regex_same FindAll name (Some v) (Some w) x = find_all_same v w x

  function_same : (f : function.Function) (name : List ℕ) (receiver : Option Data) (args : List Data) → answer_of f name receiver args a ≡ answer_of f name receiver args b
  function_same (Strings f) name receiver args = refl
  function_same (Lists f) name receiver args = refl
  function_same (Math f) name receiver args = refl
  function_same (Sets f) name receiver args = refl
  function_same (Encoders f) name receiver args = refl
  function_same (Regex f) name receiver args = regex_same f name (first_operand receiver args) (second_operand receiver args) (third_operand receiver args)
  function_same (Net f) name receiver args = refl
  function_same (Semver f) name receiver args = refl
  function_same (Quantity f) name receiver args = refl
  function_same (Url f) name receiver args = refl
  function_same (Format f) name receiver args = refl

  added_same : (name : List ℕ) (receiver : Option Data) (args : List Data) → added_answer name receiver args a ≡ added_answer name receiver args b
  added_same name receiver args = λ i. option_map_or (λ d. function_same d.function name receiver args i) (function_named name (is_some receiver)) (Err (no_overload name))

  all_same : (name : List ℕ) (receiver : Option Data) (args : List Data) → kube_answer name receiver args a ≡ kube_answer name receiver args b
  all_same name receiver args = by (standard_form name (is_some receiver) (length args))
    where
      by : (form : Form) → answer_by form name receiver args a ≡ answer_by form name receiver args b
      by Known = ap (λ r. option_map_or string_of (address_operand name receiver args) r) (standard_same name receiver args)
      by Wrong = added_same name receiver args
      by Unknown = added_same name receiver args

  pub means_same : (functions : KubeFunctions) (t : Term) (e : Bindings) → meaning (kube_library functions) a t e ≡ meaning (kube_library functions) b t e
  means_same Standard = meaning_same (kube_library Standard) a b standard_same
  means_same All = meaning_same (kube_library All) a b all_same
