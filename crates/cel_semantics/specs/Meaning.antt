-- Trusted by the headline.
-- The meaning of an expression: each tree has exactly one outcome under bindings, functions and a
-- book (CEL language definition, "Evaluation", "Logical Operators", "Macros").
use Rattle.std.specs.Prelude.{List, [], ◌∷◌, map, codes, true, false, None, Ok, Err}
use Rattle.std.specs.Option.{option_map_or}
use Rattle.cel_patterns.specs.Book.{Book}
use Rattle.cel_syntax_ast.specs.Term.{Term, literal, ident, select, has, index, unary, binary, conditional, list_of, map_with, call, qualified, macro, Terms, no_terms, term_and, count_of, Pairs, no_pairs, pair_and, is_there}
use Rattle.cel_syntax_ast.specs.declared.expr.BinaryOperator.{BinaryOperator}
use Rattle.cel_syntax_ast.specs.declared.expr.BinaryOperator.TheVariants.{Or, And, Less, LessOrEqual, Greater, GreaterOrEqual, Equal, NotEqual, In, Add, Subtract, Multiply, Divide, Remainder}
use Rattle.cel_value.specs.Data.{Data, text_key, list, map_of, no_entries}
use Rattle.cel_value.specs.Faults.{undeclared}
use Rattle.cel_value.specs.View.{items_of}
use Rattle.cel_semantics.specs.Bindings.{Bindings, binding}
use Rattle.cel_semantics.specs.Calls.{receiver_of, by_form, call_outcome}
use Rattle.cel_semantics.specs.Decisions.{decision, truth, branch_outcome}
use Rattle.cel_semantics.specs.Library.{Library}
use Rattle.cel_semantics.specs.Macros.{macro_name, macro_of, iteration_result_of}
use Rattle.cel_semantics.specs.Members.{selection, has_member, index_outcome, put_in}
use Rattle.cel_semantics.specs.Operators.{unary_outcome, binary_outcome}
use Rattle.cel_semantics.specs.Outcome.{Outcome, and_then, all_values}
use Rattle.cel_semantics.specs.Ranges.{range_of}

-- a strict operation needs both values; the left operand's error takes precedence
abbrev pub strictly : (Data → Data → Outcome) → Outcome → Outcome → Outcome
strictly f a b = and_then a (λ v. and_then b (λ w. f v w))

-- && and || use the outcomes of both operands
abbrev pub binary_of : BinaryOperator → Outcome → Outcome → Outcome
binary_of Or a b = decision true (codes "||") (a ∷ b ∷ [])
binary_of And a b = decision false (codes "&&") (a ∷ b ∷ [])
binary_of Less a b = strictly (binary_outcome Less) a b
binary_of LessOrEqual a b = strictly (binary_outcome LessOrEqual) a b
binary_of Greater a b = strictly (binary_outcome Greater) a b
binary_of GreaterOrEqual a b = strictly (binary_outcome GreaterOrEqual) a b
binary_of Equal a b = strictly (binary_outcome Equal) a b
binary_of NotEqual a b = strictly (binary_outcome NotEqual) a b
binary_of In a b = strictly (binary_outcome In) a b
binary_of Add a b = strictly (binary_outcome Add) a b
binary_of Subtract a b = strictly (binary_outcome Subtract) a b
binary_of Multiply a b = strictly (binary_outcome Multiply) a b
binary_of Divide a b = strictly (binary_outcome Divide) a b
binary_of Remainder a b = strictly (binary_outcome Remainder) a b

-- a map literal with one more entry: its key is evaluated first, then its value
abbrev pub entry_of : Outcome → Outcome → Data → Outcome
entry_of k v m = and_then k (λ x. and_then v (λ y. put_in m x y))

module _ (library : Library) (book : Book) where
  abbrev mutual
    -- In its filter and its body, a macro binds its variable to each item of its range.
    pub meaning : Term → Bindings → Outcome
    meaning (literal v) env = Ok v
    meaning (ident x) env = option_map_or Ok (binding x env) (Err (undeclared x))
    meaning (select a x) env = and_then (meaning a env) (λ v. selection (text_key x) v)
    meaning (has a x) env = and_then (meaning a env) (λ v. has_member (text_key x) v)
    meaning (index a b) env = strictly index_outcome (meaning a env) (meaning b env)
    meaning (unary op a) env = and_then (meaning a env) (λ v. unary_outcome op v)
    meaning (binary op a b) env = binary_of op (meaning a env) (meaning b env)
    meaning (conditional a b c) env =
        branch_outcome (truth (codes "?:") (meaning a env)) (meaning b env) (meaning c env)
    meaning (list_of ts) env = and_then (all_values (meanings ts env)) (λ vs. Ok (list (items_of vs)))
    meaning (map_with ps) env = map_meaning ps env (map_of no_entries)
    meaning (call target name args) env =
        by_form (library.form_of name (is_there target) (count_of args)) name
        (and_then (all_values (meanings target env)) (λ rs. and_then (all_values (meanings args env))
        (λ vs. call_outcome library book name (receiver_of rs) vs)))
    meaning (qualified name args) env = by_form (library.form_of name false (count_of args)) name
        (and_then (all_values (meanings args env)) (λ vs. call_outcome library book name None vs))
    meaning (macro kind range x filter body) env =
        and_then (meaning range env) (λ v. and_then (range_of (macro_name kind) v)
        (λ items. macro_of kind (map (λ d. meaning body ((x, d) ∷ env)) items)
        (map (λ d. iteration_result_of kind d (meanings filter ((x, d) ∷ env)) (meaning body ((x, d) ∷ env)))
        items)))

    pub meanings : Terms → Bindings → List Outcome
    meanings no_terms env = []
    meanings (term_and t ts) env = meaning t env ∷ meanings ts env

    -- adds the entries of a map literal to the map so far, one by one
    pub map_meaning : Pairs → Bindings → Data → Outcome
    map_meaning no_pairs env m = Ok m
    map_meaning (pair_and k v ps) env m =
        and_then (entry_of (meaning k env) (meaning v env) m) (λ n. map_meaning ps env n)
