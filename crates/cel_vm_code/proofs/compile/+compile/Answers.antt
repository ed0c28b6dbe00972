use Rattle.std.proofs.Common.{◌≡◌, false, true, [], ◌∷◌, ◌++◌, map, length, refl, sym, ap, ◌∙◌, arith, rules}
use Rattle.cel_value.specs.Data.{map_of, no_entries}
use Rattle.cel_syntax_ast.specs.Term.{count_of, term, terms_of, pairs_of}
use Rattle.cel_vm_code.specs.Code.{operand, operands, macro_code, entries_code, code_in, codes_in, pairs_in}
use Rattle.cel_vm_code.specs.Op.{work_of, as_list, apply, invoke, push}
use Rattle.cel_vm_code.specs.CodeViews.{variables, from_end, entries_to}
use Rattle.cel_vm_code.proofs.Compiles.{length_from_end, on_ok, operand_written, operands_written, form_written, macro_written, entries_end, unfiltered, count_terms, fewer_in_item, fewer_in_pair}
use Rattle.cel_vm_code.proofs.Terms.{is_list, is_map, is_macro_alone, is_macro_with}
use Rattle.cel_syntax_ast.specs.declared.expr.Expr.TheVariants as expr
use Rattle.cel_vm_code.proofs.compile.+compile.Goals as goal

pub write_operands-write_operand-requires : goal.write_operands-write_operand-requires
write_operands-write_operand-requires t c =
    let fewer = fewer_in_item c.args.items.now.items c.loop-k.k c.len-k.result c.index.result.now c.loop-k-test.true c.loop-k.auto.k (c.len-k.ensures ∙ c.args.items.now.ok.0) c.index.ensures in
    let here = c.decreases in omega (arith, here, fewer)

pub write_entries-write_operand-requires : goal.write_entries-write_operand-requires
write_entries-write_operand-requires t c =
    let fewer = fewer_in_pair c.args.pairs.now.items c.loop-k.k c.len-k.result c.index-pair.result.now c.loop-k-test.true c.loop-k.auto.k (c.len-k.ensures ∙ c.args.pairs.now.ok.0) c.index-pair.ensures in
    let here = c.decreases in omega (arith, here, fewer)

pub write_entries-write_operand-requires-in-loop-k : goal.write_entries-write_operand-requires-in-loop-k
write_entries-write_operand-requires-in-loop-k t c =
    let fewer = fewer_in_pair c.args.pairs.now.items c.loop-k.k c.len-k.result c.index-pair.result.now c.loop-k-test.true c.loop-k.auto.k (c.len-k.ensures ∙ c.args.pairs.now.ok.0) c.index-pair.ensures in
    let here = c.decreases in omega (arith, here, fewer)

pub write_part-returns-clause-value : goal.write_part-returns-clause-value
write_part-returns-clause-value t c =
    let w = work_of c.args.operation in
    let r = from_end c.args.code.now.items in
    let a = code_in (variables c.args.names.now) (term c.args.operand.now) in
    on_ok c.write_operand.result c.write_operand.ensures.value
    (λ h. h ∙ operand_written a 0 r _ (apply w 1 ∷ []) c.in_ok-end.end c.in_ok-end.ensures.end (c.in_ok-end.ensures.value ∙ ap (λ n. apply w n ∷ r) c.requires))

pub write_parts-returns-clause-value : goal.write_parts-returns-clause-value
write_parts-returns-clause-value t c =
    let w = work_of c.args.operation in
    let xs = variables c.args.names.now in
    let r = from_end c.args.code.now.items in
    let a = code_in xs (term c.args.left.now) in
    let b = code_in xs (term c.args.right.now) in
    let last = c.in_ok-end.ensures.value ∙ ap (λ n. apply w n ∷ r) c.requires in
    let rest = c.in_ok-write_operand.ensures.value ∙ operand_written b 1 r _ (apply w 2 ∷ []) c.in_ok-end.end c.in_ok-end.ensures.end last in
    on_ok c.write_operand-2.result c.write_operand-2.ensures.value (λ h. h ∙ operand_written a 0 r _ (operand b 1 (apply w 2 ∷ [])) c.in_ok-end.end c.in_ok-end.ensures.end rest)

pub write_function-returns-clause-value : goal.write_function-returns-clause-value
write_function-returns-clause-value t c =
    let cs = codes_in (variables c.args.names.now) (terms_of (map term c.args.args.now.items)) in
    let x = c.args.name.now in
    let n = count_of (terms_of (map term c.args.args.now.items)) in
    let r = from_end c.args.code.now.items in
    let counted : c.len-count.result ≡ n = c.len-count.ensures ∙ c.args.args.now.ok.0 ∙ sym (count_terms c.args.args.now.items) in
    let last = invoke x 0 n in
    let called : from_end c.write_one.new.code.items ≡ last ∷ r = c.in_ok-end.ensures.value ∙ ap (λ i. i ∷ r) (c.in_ok-call_instr.ensures ∙ ap (invoke x 0) counted) in
    form_written x false c.len-count.result n r _ (operands cs 0 (last ∷ [])) _ c.in_ok-end.end c.in_ok-end.ensures.end counted
    (c.in_ok-write_operands.ensures.value ∙ operands_written cs 0 last r _ (operands cs 0 (last ∷ [])) c.in_ok-end.end c.in_ok-end.ensures.end called refl) c.in_ok-write_form.ensures

pub write_method-returns-clause-value : goal.write_method-returns-clause-value
write_method-returns-clause-value t c =
    let xs = variables c.args.names.now in
    let cs = codes_in xs (terms_of (map term c.args.args.now.items)) in
    let a = code_in xs (term c.args.target.now) in
    let x = c.args.name.now in
    let n = count_of (terms_of (map term c.args.args.now.items)) in
    let r = from_end c.args.code.now.items in
    let counted : c.len-count.result ≡ n = c.len-count.ensures ∙ c.args.args.now.ok.0 ∙ sym (count_terms c.args.args.now.items) in
    let last = invoke x 1 n in
    let rest = operands cs 1 (last ∷ []) in
    let called : from_end c.write_one.new.code.items ≡ last ∷ r = c.in_ok-end.ensures.value ∙ ap (λ i. i ∷ r) (c.in_ok-call_instr.ensures ∙ ap (invoke x 1) counted) in
    let written = c.in_ok-write_operands.ensures.value ∙ operands_written cs 1 last r _ rest c.in_ok-end.end c.in_ok-end.ensures.end called refl in
    form_written x true c.len-count.result n r _ (operand a 0 rest) _ c.in_ok-end.end c.in_ok-end.ensures.end counted
    (c.in_ok-write_operand.ensures.value ∙ operand_written a 0 r _ rest c.in_ok-end.end c.in_ok-end.ensures.end written) c.in_ok-write_form.ensures

pub write_tree-returns-in-List-clause-value : goal.write_tree-returns-in-List-clause-value
write_tree-returns-in-List-clause-value t c =
    let xs = variables c.args.names.now in
    let r = from_end c.args.code.now.items in
    let whole = code_in xs (term c.args.expr.now) in
    let cs = codes_in xs (terms_of (map term c.in-List.items.items)) in
    let n = count_of (terms_of (map term c.in-List.items.items)) in
    let counted : c.len.result ≡ n = c.len.ensures ∙ c.in-List.items.ok.0 ∙ sym (count_terms c.in-List.items.items) in
    let last = apply as_list n in
    let e : whole ≡ operands cs 0 (last ∷ []) = ap (code_in xs) (ap term c.in-List.is ∙ is_list c.in-List.items) in
    on_ok c.write_operands.result c.write_operands.ensures.value (λ h. h
    ∙ operands_written cs 0 last r _ whole c.in_ok-end-in-List.end c.in_ok-end-in-List.ensures.end (c.in_ok-end-in-List.ensures.value ∙ ap (λ m. apply as_list m ∷ r) counted) e)

pub write_tree-returns-in-Map-clause-value : goal.write_tree-returns-in-Map-clause-value
write_tree-returns-in-Map-clause-value t c =
    let xs = variables c.args.names.now in
    let r = from_end c.args.code.now.items in
    let whole = code_in xs (term c.args.expr.now) in
    let ps = pairs_in xs (pairs_of (map (λ p. (term p.0, term p.1)) c.in-Map.pairs.items)) in
    let end : c.len-end.result ≡ length r = c.len-end.ensures ∙ c.args.code.now.ok.0 ∙ sym (length_from_end c.args.code.now.items) in
    let e : whole ≡ push (map_of no_entries) ∷ entries_code ps [] = ap (code_in xs) (ap term c.in-Map.is ∙ is_map c.in-Map.pairs) in
    c.in_ok-write_one-in-Map.ensures.value ∙ ap (λ i. i ∷ from_end c.write_entries.new.code.items) c.in_ok-empty_map-in-Map.ensures.value
    ∙ ap (λ l. push (map_of no_entries) ∷ l) (c.in_ok-write_entries-in-Map.ensures.value ∙ ap (λ n. entries_to ps n r) end ∙ entries_end ps [] r)
    ∙ ap (λ l. l ++ r) (sym e)

pub write_tree-returns-in-None-filter-clause-value : goal.write_tree-returns-in-None-filter-clause-value
write_tree-returns-in-None-filter-clause-value t c =
    let xs = variables c.args.names.now in
    let r = from_end c.args.code.now.items in
    let whole = code_in xs (term c.args.expr.now) in
    let range = code_in xs (term c.deref-in-None-filter-2.result.now) in
    let b = code_in (variables c.as_slice.result.now) (term c.deref-in-None-filter.result.now) in
    let x = c.in-Macro.variable in
    let v : variables c.as_slice.result.now ≡ x ∷ xs = search rules in
    let d : c.in-Macro.range.value ≡ c.deref-in-None-filter-2.result.now = search rules in
    let g : c.in-Macro.body.value ≡ c.deref-in-None-filter.result.now = search rules in
    let m = ap term (c.in-Macro.is ∙ ap (λ o. expr.Macro c.in-Macro.kind c.in-Macro.range c.in-Macro.variable o c.in-Macro.body) c.in-None-filter.is) ∙ is_macro_alone c.in-Macro.kind c.in-Macro.range c.in-Macro.variable c.in-Macro.body in
    let e : whole ≡ macro_code c.in-Macro.kind range [] b =
    ap (code_in xs) m ∙ ap (λ u. macro_code c.in-Macro.kind (code_in xs (term u)) [] (code_in (x ∷ xs) (term c.in-Macro.body.value))) d
    ∙ ap (λ u. macro_code c.in-Macro.kind range [] (code_in (x ∷ xs) (term u))) g ∙ ap (λ ys. macro_code c.in-Macro.kind range [] (code_in ys (term c.deref-in-None-filter.result.now))) (sym v) in
    on_ok c.write_tree.result c.write_tree.ensures.value (λ h. h
    ∙ macro_written c.in-Macro.kind range [] b r _ whole (c.in_ok-write_loop-in-None-filter.ensures.value ∙ ap (λ l. l ++ r) (unfiltered c.in-Macro.kind b)) e)

pub write_tree-returns-clause-value : goal.write_tree-returns-clause-value
write_tree-returns-clause-value t c =
    let xs = variables c.args.names.now in
    let r = from_end c.args.code.now.items in
    let whole = code_in xs (term c.args.expr.now) in
    let range = code_in xs (term c.deref-in-Some-filter-3.result.now) in
    let b = code_in (variables c.as_slice-in-Some-filter.result.now) (term c.deref-in-Some-filter-2.result.now) in
    let f = code_in (variables c.as_slice-in-Some-filter.result.now) (term c.deref-in-Some-filter.result.now) in
    let x = c.in-Macro.variable in
    let v : variables c.as_slice-in-Some-filter.result.now ≡ x ∷ xs = search rules in
    let d : c.in-Macro.range.value ≡ c.deref-in-Some-filter-3.result.now = search rules in
    let g : c.in-Macro.body.value ≡ c.deref-in-Some-filter-2.result.now = search rules in
    let o : c.in-Some-filter.test.value ≡ c.deref-in-Some-filter.result.now = search rules in
    let m = ap term (c.in-Macro.is ∙ ap (λ o. expr.Macro c.in-Macro.kind c.in-Macro.range c.in-Macro.variable o c.in-Macro.body) c.in-Some-filter.is) ∙ is_macro_with c.in-Macro.kind c.in-Macro.range c.in-Macro.variable c.in-Some-filter.test c.in-Macro.body in
    let e : whole ≡ macro_code c.in-Macro.kind range (f ∷ []) b =
    ap (code_in xs) m ∙ ap (λ u. macro_code c.in-Macro.kind (code_in xs (term u)) (code_in (x ∷ xs) (term c.in-Some-filter.test.value) ∷ []) (code_in (x ∷ xs) (term c.in-Macro.body.value))) d
    ∙ ap (λ u. macro_code c.in-Macro.kind range (code_in (x ∷ xs) (term u) ∷ []) (code_in (x ∷ xs) (term c.in-Macro.body.value))) o
    ∙ ap (λ u. macro_code c.in-Macro.kind range (code_in (x ∷ xs) (term c.deref-in-Some-filter.result.now) ∷ []) (code_in (x ∷ xs) (term u))) g
    ∙ ap (λ ys. macro_code c.in-Macro.kind range (code_in ys (term c.deref-in-Some-filter.result.now) ∷ []) (code_in ys (term c.deref-in-Some-filter-2.result.now))) (sym v) in
    on_ok c.write_tree-in-Some-filter.result c.write_tree-in-Some-filter.ensures.value (λ h. h
    ∙ macro_written c.in-Macro.kind range (f ∷ []) b r _ whole c.in_ok-write_filter-in-Some-filter.ensures.value e)
