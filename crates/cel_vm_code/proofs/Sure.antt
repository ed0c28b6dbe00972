-- Which code is sure, by its tree.
use Rattle.std.proofs.Common.{◌≡◌, Bool, true, false, ℕ, suc, ◌<◌, List, [], ◌∷◌, length, Option, Some, None, Box, refl, sym, ap, ◌∙◌, true≢false, arith, rules}
use Rattle.cel_syntax_ast.specs.Term.{Term, literal, ident, select, has, index, unary, binary, conditional, list_of, map_with, call, qualified, macro, no_terms, term_and, count_of, pairs_of, term}
use Rattle.cel_syntax_ast.specs.declared.expr.BinaryOperator.{BinaryOperator}
use Rattle.cel_syntax_ast.specs.declared.expr.BinaryOperator.TheVariants.{Or, And}
use Rattle.cel_syntax_ast.specs.declared.expr.MacroKind.TheVariants.{All, Exists, ExistsOne, Map, Filter}
use Rattle.std.specs.Prelude.{codes, ◌==◌}
use Rattle.cel_value.specs.Data.{Data, text_key}
use Rattle.cel_vm_code.specs.Code.{is_sure, operand, operands, entries_code, filter_code, binary_code, literal_of, code_in, codes_in, pairs_in}
use Rattle.cel_vm_code.specs.Op.{Op, one_value, selected_at, has_at, indexed_by, as_list, put_entry, guard, apply, invoke}
use Rattle.std.specs.declared.alloc.Global.{Global}
use Rattle.cel_syntax_ast.specs.declared.expr.Expr.{Expr}
use Rattle.cel_syntax_ast.specs.declared.expr.Expr.TheVariants as expr
use Rattle.cel_vm_code.proofs.Terms.{is_macro_alone, is_macro_with}
use Rattle.cel_vm_code.proofs.Sizes.{operand_many, operands_many, strict_many, logic_length, choice_length, loop_length}

-- the trees whose code may be sure
abbrev pub may_be_sure : Term → Bool
may_be_sure (literal v) = true
may_be_sure (ident x) = true
may_be_sure (map_with ps) = true
may_be_sure _ = false

longer : (c : List Op) → 1 < length c → false ≡ is_sure c
longer [] h = absurd (omega (arith, h))
longer (i ∷ []) h = absurd (omega (arith, h))
longer (i ∷ j ∷ c) h = refl

binary_many : (o : BinaryOperator) (a b : List Op) (l : Option Data) → 1 < length (binary_code o a b l)
binary_many Or a b l = omega (arith, logic_length true a b)
binary_many And a b l = omega (arith, logic_length false a b)
binary_many o a b l = strict_many o a b l

pub unsure : (xs : List (List ℕ)) (t : Term) → may_be_sure t ≡ false → false ≡ is_sure (code_in xs t)
unsure xs (literal v) h = absurd (true≢false h)
unsure xs (ident x) h = absurd (true≢false h)
unsure xs (map_with ps) h = absurd (true≢false h)
unsure xs (select a x) h = longer (code_in xs (select a x)) (omega (arith, operand_many (code_in xs a) 0 (apply (selected_at (text_key x)) 1 ∷ [])))
unsure xs (has a x) h = longer (code_in xs (has a x)) (omega (arith, operand_many (code_in xs a) 0 (apply (has_at (text_key x)) 1 ∷ [])))
unsure xs (index a b) h = longer (code_in xs (index a b)) (omega (arith, operand_many (code_in xs a) 0 (operand (code_in xs b) 1 (apply indexed_by 2 ∷ [])), operand_many (code_in xs b) 1 (apply indexed_by 2 ∷ [])))
unsure xs (unary o a) h = longer (code_in xs (unary o a)) (omega (arith, operand_many (code_in xs a) 0 (apply (one_value o) 1 ∷ [])))
unsure xs (binary o a b) h = longer (code_in xs (binary o a b)) (binary_many o (code_in xs a) (code_in xs b) (literal_of b))
unsure xs (conditional a b c) h = longer (code_in xs (conditional a b c)) (omega (arith, choice_length (codes "?:") (code_in xs a) (code_in xs b) (code_in xs c)))
unsure xs (list_of no_terms) h = refl
unsure xs (list_of (term_and t ts)) h =
    let last = apply as_list (count_of (term_and t ts)) ∷ [] in
    longer (code_in xs (list_of (term_and t ts))) (omega (arith, operand_many (code_in xs t) 0 (operands (codes_in xs ts) 1 last), operands_many (codes_in xs ts) 1 last))
unsure xs (call target x args) h =
    let last = invoke x (count_of target) (count_of args) ∷ [] in
    longer (code_in xs (call target x args)) (omega (arith, operands_many (codes_in xs target) 0 (operands (codes_in xs args) (count_of target) last), operands_many (codes_in xs args) (count_of target) last))
unsure xs (qualified x args) h = longer (code_in xs (qualified x args)) (omega (arith, operands_many (codes_in xs args) 0 (invoke x 0 (count_of args) ∷ [])))
unsure xs (macro All r x f b) h = longer (code_in xs (macro All r x f b)) (omega (arith, loop_length All false (code_in xs r) (code_in (x ∷ xs) b)))
unsure xs (macro Exists r x f b) h = longer (code_in xs (macro Exists r x f b)) (omega (arith, loop_length Exists false (code_in xs r) (code_in (x ∷ xs) b)))
unsure xs (macro ExistsOne r x f b) h = longer (code_in xs (macro ExistsOne r x f b)) (omega (arith, loop_length ExistsOne false (code_in xs r) (code_in (x ∷ xs) b)))
unsure xs (macro Filter r x f b) h = longer (code_in xs (macro Filter r x f b)) (omega (arith, loop_length Filter false (code_in xs r) (code_in (x ∷ xs) b)))
unsure xs (macro Map r x no_terms b) h = longer (code_in xs (macro Map r x no_terms b)) (omega (arith, loop_length Map false (code_in xs r) (code_in (x ∷ xs) b)))
unsure xs (macro Map r x (term_and t ts) b) h = longer (code_in xs (macro Map r x (term_and t ts) b)) (omega (arith, loop_length Map true (code_in xs r) (filter_code (code_in (x ∷ xs) t) (code_in (x ∷ xs) b))))

some : (n : ℕ) → (suc n == 0) ≡ false
some n = search rules

-- a map literal is sure only if it has no entries
pub sure_map : (xs : List (List ℕ)) (ps : List (Term × Term)) → is_sure (code_in xs (map_with (pairs_of ps))) ≡ (length ps == 0)
sure_map xs [] = refl
sure_map xs (p ∷ ps) =
    let rest = entries_code (pairs_in xs (pairs_of ps)) [] in
    sym (longer (code_in xs (map_with (pairs_of (p ∷ ps))))
    (omega (arith, operand_many (code_in xs p.0) 1 (operand (code_in xs p.1) 2 (apply put_entry 3 ∷ guard 0 (length rest) ∷ rest)))))
    ∙ sym (some (length ps))

pub unsure_macro : (xs : List (List ℕ)) (e : Expr) (k : _) (r : _) (x : _) (f : Option (Box Expr Global)) (b : _) → e ≡ expr.Macro k r x f b → false ≡ is_sure (code_in xs (term e))
unsure_macro xs e k r x None b h = unsure xs (term e) (ap may_be_sure (ap term h ∙ is_macro_alone k r x b))
unsure_macro xs e k r x (Some f) b h = unsure xs (term e) (ap may_be_sure (ap term h ∙ is_macro_with k r x f b))
