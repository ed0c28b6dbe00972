-- A tree keeps its value if all calls keep theirs.
use Rattle.cel.specs.Book.{Book}
use Rattle.cel.specs.Bindings.{Bindings, binding}
use Rattle.cel.specs.Calls.{by_form, call_outcome, receiver_of}
use Rattle.cel.specs.Library.{Library}
use Rattle.cel.specs.Macros.{macro_name}
use Rattle.cel.specs.Meaning.{map_meaning, meaning, meanings}
use Rattle.cel.specs.Members.{has_member, index_outcome, selection}
use Rattle.cel.specs.Operators.{unary_outcome}
use Rattle.cel.specs.Outcome.{Outcome, all_values, and_then, no_doubles}
use Rattle.cel.specs.Ranges.{range_of}
use Rattle.cel.specs.Form.{Form}
use Rattle.cel.specs.Form.TheVariants.{Unknown, Wrong, Known}
use Rattle.cel_syntax.specs.Term.{is_there, Term, literal, ident, select, has, index, unary, binary, conditional, list_of, map_with, call, qualified, macro, Terms, no_terms, term_and, count_of, Pairs, no_pairs, pair_and}
use Rattle.cel_value.specs.Data.{Data, text_key, list, map_of, no_entries}
use Rattle.cel_value.specs.Faults.{undeclared}
use Rattle.cel_value.specs.Same.{has_double}
use Rattle.cel_value.specs.View.{items_of}
use Rattle.kube_cel_laws.proofs.Decisions.{binary_kept, branch_kept, entry_kept, iteration_kept, macro_kept, strictly_kept, truth_kept}
use Rattle.kube_cel_laws.proofs.Results.{AllKept, Keeps, all_values_kept, and_then_kept, each_kept, keeps_itself, mapped_kept}
use Rattle.std.proofs.Common.{ℕ, List, ◌∷◌, ◌||◌, Bool, true, false, Option, None, Ok, Err, codes, if◌then◌else◌, refl}
use Rattle.std.specs.List.{list_any}
use Rattle.std.specs.Option.{option_map_or}

form_kept : (form : Form) (name : List ℕ) (r s : Outcome) → Keeps r s → Keeps (by_form form name r) (by_form form name s)
form_kept Unknown name r s k = tt
form_kept Wrong name r s k = tt
form_kept Known name r s k = k

unless_kept : (x : Bool) (r s : Outcome) → Keeps r s → Keeps (if x then Err no_doubles else r) (if x then Err no_doubles else s)
unless_kept true r s k = tt
unless_kept false r s k = k

module _ (library : Library) (strict lenient : Book) (answer_kept : (name : List ℕ) (receiver : Option Data) (args : List Data) → Keeps (library.answer_of name receiver args strict) (library.answer_of name receiver args lenient)) where
  call_kept : (name : List ℕ) (receiver : Option Data) (args : List Data) → Keeps (call_outcome library strict name receiver args) (call_outcome library lenient name receiver args)
  call_kept name receiver args = unless_kept (option_map_or has_double receiver false || list_any has_double args) _ _ (answer_kept name receiver args)

  -- a call with these operands
  called_kept : (name : List ℕ) (receiver : Option Data) (rs ss : List Outcome) → AllKept rs ss
      → Keeps (and_then (all_values rs) (λ vs. call_outcome library strict name receiver vs)) (and_then (all_values ss) (λ vs. call_outcome library lenient name receiver vs))
  called_kept name receiver rs ss k = and_then_kept _ _ _ _ (all_values_kept rs ss k) (λ vs. call_kept name receiver vs)

  mutual
    pub meaning_kept : (t : Term) (e : Bindings) → Keeps (meaning library strict t e) (meaning library lenient t e)
    meaning_kept (literal v) e = refl
    meaning_kept (ident x) e = keeps_itself (option_map_or Ok (binding x e) (Err (undeclared x)))
    meaning_kept (select t x) e = mapped_kept _ _ (λ v. selection (text_key x) v) (meaning_kept t e)
    meaning_kept (has t x) e = mapped_kept _ _ (λ v. has_member (text_key x) v) (meaning_kept t e)
    meaning_kept (index t u) e = strictly_kept index_outcome _ _ _ _ (meaning_kept t e) (meaning_kept u e)
    meaning_kept (unary op t) e = mapped_kept _ _ (λ v. unary_outcome op v) (meaning_kept t e)
    meaning_kept (binary op t u) e = binary_kept op _ _ _ _ (meaning_kept t e) (meaning_kept u e)
    meaning_kept (conditional t u v) e = branch_kept _ _ _ _ _ _ (truth_kept (codes "?:") _ _ (meaning_kept t e)) (meaning_kept u e) (meaning_kept v e)
    meaning_kept (list_of ts) e = mapped_kept _ _ (λ vs. Ok (list (items_of vs))) (all_values_kept _ _ (meanings_kept ts e))
    meaning_kept (map_with ps) e = map_meaning_kept ps e (map_of no_entries)
    meaning_kept (call target name args) e = form_kept (library.form_of name (is_there target) (count_of args)) name _ _
        (and_then_kept _ _ _ _ (all_values_kept _ _ (meanings_kept target e)) (λ rs. called_kept name (receiver_of rs) _ _ (meanings_kept args e)))
    meaning_kept (qualified name args) e = form_kept (library.form_of name false (count_of args)) name _ _ (called_kept name None _ _ (meanings_kept args e))
    meaning_kept (macro kind range x filter body) e = and_then_kept _ _ _ _ (meaning_kept range e)
        (λ v. and_then_kept _ _ _ _ (keeps_itself (range_of (macro_name kind) v))
        (λ items. macro_kept kind _ _ _ _ (each_kept _ _ (λ d. meaning_kept body ((x, d) ∷ e)) items)
        (each_kept _ _ (λ d. iteration_kept kind d _ _ _ _ (meanings_kept filter ((x, d) ∷ e)) (meaning_kept body ((x, d) ∷ e))) items)))

    meanings_kept : (ts : Terms) (e : Bindings) → AllKept (meanings library strict ts e) (meanings library lenient ts e)
    meanings_kept no_terms e = tt
    meanings_kept (term_and t ts) e = (meaning_kept t e, meanings_kept ts e)

    map_meaning_kept : (ps : Pairs) (e : Bindings) (m : Data) → Keeps (map_meaning library strict ps e m) (map_meaning library lenient ps e m)
    map_meaning_kept no_pairs e m = refl
    map_meaning_kept (pair_and k v ps) e m = and_then_kept _ _ _ _ (entry_kept _ _ _ _ m (meaning_kept k e) (meaning_kept v e)) (λ n. map_meaning_kept ps e n)
