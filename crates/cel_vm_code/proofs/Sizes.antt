-- The code of a tree has fewer than five instructions per node.
use Rattle.std.proofs.Common.{◌≡◌, Bool, true, false, ℕ, suc, ◌+◌, ◌*◌, ◌≤◌, ◌<◌, List, [], ◌∷◌, ◌++◌, length, Option, Some, None, refl, sym, true≢false, arith, length-append}
use Rattle.std.specs.Prelude.{codes}
use Rattle.cel_syntax_ast.specs.Term.{Term, Terms, Pairs, literal, ident, select, has, index, unary, binary, conditional, list_of, map_with, call, qualified, macro, no_terms, term_and, count_of, no_pairs, pair_and}
use Rattle.cel_syntax_ast.specs.declared.expr.BinaryOperator.{BinaryOperator}
use Rattle.cel_syntax_ast.specs.declared.expr.BinaryOperator.TheVariants.{Or, And}
use Rattle.cel_syntax_ast.specs.declared.expr.MacroKind.{MacroKind}
use Rattle.cel_syntax_ast.specs.declared.expr.MacroKind.TheVariants.{All, Exists, ExistsOne, Map, Filter}
use Rattle.cel_value.specs.Data.{Data, bool, text_key}
use Rattle.cel_vm_code.specs.Code.{is_sure, with_guard, operand, one_with, both_with, logic, choice_code, loop, entry_code, filter_code, strict_code, binary_code, literal_of, code_in, code_of, operands, codes_in, entries_code, pairs_in}
use Rattle.cel_vm_code.specs.Op.{Op, Work, one_value, two_values, with_literal, selected_at, has_at, indexed_by, as_list, put_entry, push, guard, apply, invoke, branch, skip, absorb, join, begin, next}
use Rattle.cel_vm_code.specs.Size.{nodes, all_nodes, pair_nodes}

-- code that is sure is one instruction
is_one : (c : List Op) → is_sure c ≡ true → length c ≡ 1
is_one [] h = absurd (true≢false (sym h))
is_one (i ∷ []) h = refl
is_one (i ∷ j ∷ c) h = absurd (true≢false (sym h))

-- so longer code isn't sure
pub not_sure : {P : Type 0} (c : List Op) → 1 < length c → is_sure c ≡ true → P
not_sure c n h = absurd (omega (arith, n, is_one c h))

checked_length : (s : Bool) (k : ℕ) (rest : List Op) → length (with_guard s k rest) ≤ length rest + 1
checked_length true k rest = omega arith
checked_length false k rest = omega arith

checked_many : (s : Bool) (c : List Op) (k : ℕ) (rest : List Op) → (s ≡ true → length c ≡ 1) → length rest + 1 ≤ length c + length (with_guard s k rest)
checked_many true c k rest h = omega (arith, h refl)
checked_many false c k rest h = omega arith

operand_length : (c : List Op) (k : ℕ) (rest : List Op) → length (operand c k rest) ≤ length c + 1 + length rest
operand_length c k rest = omega (arith, length-append c (with_guard (is_sure c) k rest), checked_length (is_sure c) k rest)

pub operand_many : (c : List Op) (k : ℕ) (rest : List Op) → length rest + 1 ≤ length (operand c k rest)
operand_many c k rest = omega (arith, length-append c (with_guard (is_sure c) k rest), checked_many (is_sure c) c k rest (is_one c))

pub operands_many : (cs : List (List Op)) (k : ℕ) (rest : List Op) → length rest ≤ length (operands cs k rest)
operands_many [] k rest = omega arith
operands_many (c ∷ cs) k rest = omega (arith, operand_many c k (operands cs (suc k) rest), operands_many cs (suc k) rest)

one_length : (w : Work) (a : List Op) → length (one_with w a) ≤ length a + 2
one_length w a = omega (arith, operand_length a 0 (apply w 1 ∷ []))

both_length : (w : Work) (a b : List Op) → length (both_with w a b) ≤ length a + length b + 3
both_length w a b = omega (arith, operand_length b 1 (apply w 2 ∷ []), operand_length a 0 (operand b 1 (apply w 2 ∷ [])))

strict_length : (o : BinaryOperator) (a b : List Op) (l : Option Data) → length (strict_code o a b l) ≤ length a + length b + 3
strict_length o a b None = both_length (two_values o) a b
strict_length o a b (Some v) = omega (arith, one_length (with_literal o v) a)

pub strict_many : (o : BinaryOperator) (a b : List Op) (l : Option Data) → 1 < length (strict_code o a b l)
strict_many o a b None = omega (arith, operand_many a 0 (operand b 1 (apply (two_values o) 2 ∷ [])), operand_many b 1 (apply (two_values o) 2 ∷ []))
strict_many o a b (Some v) = omega (arith, operand_many a 0 (apply (with_literal o v) 1 ∷ []))

pub logic_length : (s : Bool) (a b : List Op) → length (logic s a b) ≡ length a + length b + 2
logic_length s a b = omega (arith, length-append a (absorb s (length b + 1) ∷ (b ++ join s ∷ [])), length-append b (join s ∷ []))

binary_length : (o : BinaryOperator) (a b : List Op) (l : Option Data) → length (binary_code o a b l) ≤ length a + length b + 3
binary_length Or a b l = omega (arith, logic_length true a b)
binary_length And a b l = omega (arith, logic_length false a b)
binary_length o a b l = strict_length o a b l

pub choice_length : (name : List ℕ) (a b c : List Op) → length (choice_code name a b c) ≡ length a + length b + length c + 2
choice_length name a b c = omega (arith, length-append a (branch name (length b + 1) (length b + 1 + length c) ∷ (b ++ skip (length c) ∷ c)), length-append b (skip (length c) ∷ c))

filter_length : (a b : List Op) → length (filter_code a b) ≤ length a + length b + 5
filter_length a b = omega (arith, choice_length (codes "map") a (operand b 0 (push (bool true) ∷ [])) (push (bool false) ∷ []), operand_length b 0 (push (bool true) ∷ []))

pub loop_length : (k : MacroKind) (f : Bool) (a b : List Op) → length (loop k f a b) ≡ length a + length b + 2
loop_length k f a b = omega (arith, length-append a (begin k (length b + 1) ∷ (b ++ next k f ∷ [])), length-append b (next k f ∷ []))

entry_length : (a b rest : List Op) → length (entry_code a b rest) ≤ length a + length b + length rest + 4
entry_length a b rest = omega (arith, operand_length b 2 (apply put_entry 3 ∷ guard 0 (length rest) ∷ rest), operand_length a 1 (operand b 2 (apply put_entry 3 ∷ guard 0 (length rest) ∷ rest)))

mutual
  short_in : (xs : List (List ℕ)) (t : Term) → length (code_in xs t) + 2 ≤ 5 * nodes t
  short_in xs (literal v) = omega arith
  short_in xs (ident x) = omega arith
  short_in xs (select a x) = omega (arith, short_in xs a, one_length (selected_at (text_key x)) (code_in xs a))
  short_in xs (has a x) = omega (arith, short_in xs a, one_length (has_at (text_key x)) (code_in xs a))
  short_in xs (index a b) = omega (arith, short_in xs a, short_in xs b, both_length indexed_by (code_in xs a) (code_in xs b))
  short_in xs (unary o a) = omega (arith, short_in xs a, one_length (one_value o) (code_in xs a))
  short_in xs (binary o a b) = omega (arith, short_in xs a, short_in xs b, binary_length o (code_in xs a) (code_in xs b) (literal_of b))
  short_in xs (conditional a b c) = omega (arith, short_in xs a, short_in xs b, short_in xs c, choice_length (codes "?:") (code_in xs a) (code_in xs b) (code_in xs c))
  short_in xs (list_of ts) = omega (arith, operands_are_short xs ts 0 (apply as_list (count_of ts) ∷ []))
  short_in xs (map_with ps) = omega (arith, entries_are_short xs ps)
  short_in xs (call target x args) = omega (arith, operands_are_short xs target 0 (operands (codes_in xs args) (count_of target) (invoke x (count_of target) (count_of args) ∷ [])), operands_are_short xs args (count_of target) (invoke x (count_of target) (count_of args) ∷ []))
  short_in xs (qualified x args) = omega (arith, operands_are_short xs args 0 (invoke x 0 (count_of args) ∷ []))
  short_in xs (macro All range x filter body) = omega (arith, short_in xs range, short_in (x ∷ xs) body, loop_length All false (code_in xs range) (code_in (x ∷ xs) body))
  short_in xs (macro Exists range x filter body) = omega (arith, short_in xs range, short_in (x ∷ xs) body, loop_length Exists false (code_in xs range) (code_in (x ∷ xs) body))
  short_in xs (macro ExistsOne range x filter body) = omega (arith, short_in xs range, short_in (x ∷ xs) body, loop_length ExistsOne false (code_in xs range) (code_in (x ∷ xs) body))
  short_in xs (macro Filter range x filter body) = omega (arith, short_in xs range, short_in (x ∷ xs) body, loop_length Filter false (code_in xs range) (code_in (x ∷ xs) body))
  short_in xs (macro Map range x no_terms body) = omega (arith, short_in xs range, short_in (x ∷ xs) body, loop_length Map false (code_in xs range) (code_in (x ∷ xs) body))
  short_in xs (macro Map range x (term_and t ts) body) = omega (arith, short_in xs range, short_in (x ∷ xs) t, short_in (x ∷ xs) body, loop_length Map true (code_in xs range) (filter_code (code_in (x ∷ xs) t) (code_in (x ∷ xs) body)), filter_length (code_in (x ∷ xs) t) (code_in (x ∷ xs) body))

  operands_are_short : (xs : List (List ℕ)) (ts : Terms) (k : ℕ) (rest : List Op) → length (operands (codes_in xs ts) k rest) ≤ 5 * all_nodes ts + length rest
  operands_are_short xs no_terms k rest = omega arith
  operands_are_short xs (term_and t ts) k rest = omega (arith, short_in xs t, operands_are_short xs ts (suc k) rest, operand_length (code_in xs t) k (operands (codes_in xs ts) (suc k) rest))

  entries_are_short : (xs : List (List ℕ)) (ps : Pairs) → length (entries_code (pairs_in xs ps) []) ≤ 5 * pair_nodes ps
  entries_are_short xs no_pairs = omega arith
  entries_are_short xs (pair_and k v ps) = omega (arith, short_in xs k, short_in xs v, entries_are_short xs ps, entry_length (code_in xs k) (code_in xs v) (entries_code (pairs_in xs ps) []))

pub code_is_short : (t : Term) → length (code_of t) + 2 ≤ 5 * nodes t
code_is_short t = short_in [] t
