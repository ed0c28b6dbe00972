-- Code that is written from its end to its start, in front of the code r of what comes after it.
use Rattle.std.proofs.Common.{◌≡◌, ℕ, zero, suc, ◌+◌, ◌-◌, ◌<◌, ◌≤◌, List, [], ◌∷◌, ◌++◌, length, map, reverse, get_or, Bool, false, true, Result, Ok, Err, OnOk, refl, sym, ap, ◌∙◌, arith, append_assoc, length-append}
use Rattle.std.proofs.lemmas.List.{map-append, reverse-append, length-reverse, length-map}
use Rattle.cel_syntax_ast.specs.Term.{count_of, term, terms_of, pairs_of}
use Rattle.cel_syntax_ast.specs.declared.expr.Expr.{Expr}
use Rattle.cel_syntax_ast.specs.declared.expr.MacroKind.{MacroKind}
use Rattle.cel_syntax_ast.specs.declared.expr.MacroKind.TheVariants.{All, Exists, ExistsOne, Map, Filter}
use Rattle.cel_vm_code.specs.Code.{is_sure, with_guard, operand, operands, entry_code, entries_code, logic, choice_code, loop, after_form, macro_code}
use Rattle.cel_vm_code.specs.Op.{Op, op, put_entry, guard, apply, form, branch, skip, absorb, join, begin, next}
use Rattle.cel_vm_code.specs.CodeViews.{from_end, guard_to, operand_to, operands_to, entry_to, entries_to}
use Rattle.cel_vm_code.specs.declared.instr.Instr.{Instr}
use Rattle.cel_vm_code.specs.Size.{nodes, all_nodes, pair_nodes}

map_reverse : {X Y : Type 0} (f : X → Y) (xs : List X) → map f (reverse xs) ≡ reverse (map f xs)
map_reverse f [] = refl
map_reverse f (x ∷ xs) =
    ap (map f) (reverse-append (x ∷ []) xs) ∙ map-append f (reverse xs) (x ∷ []) ∙ ap (λ l. l ++ f x ∷ []) (map_reverse f xs) ∙ sym (reverse-append (f x ∷ []) (map f xs))

-- reversing gives the code itself
pub reversed_from_end : (xs ys : List Instr) → ys ≡ reverse xs → map op ys ≡ from_end xs
reversed_from_end xs ys h = ap (map op) h ∙ map_reverse op xs

pub length_from_end : (xs : List Instr) → length (from_end xs) ≡ length xs
length_from_end xs = length-reverse (map op xs) ∙ length-map xs op

past : (f r : List Op) → length (f ++ r) - length r ≡ length f
past f r = omega (arith, length-append f r)

guard_end : (s : Bool) (k : ℕ) (f r : List Op) → guard_to s k (length r) (f ++ r) ≡ with_guard s k f ++ r
guard_end true k f r = refl
guard_end false k f r = ap (λ n. guard k n ∷ (f ++ r)) (past f r)

pub operand_end : (c : List Op) (k : ℕ) (f r : List Op) → operand_to c k (length r) (f ++ r) ≡ operand c k f ++ r
operand_end c k f r = ap (λ l. c ++ l) (guard_end (is_sure c) k f r) ∙ sym (append_assoc c (with_guard (is_sure c) k f) r)

pub operands_end : (cs : List (List Op)) (k : ℕ) (f r : List Op) → operands_to cs k (length r) (f ++ r) ≡ operands cs k f ++ r
operands_end [] k f r = refl
operands_end (c ∷ cs) k f r = ap (operand_to c k (length r)) (operands_end cs (suc k) f r) ∙ operand_end c k (operands cs (suc k) f) r

entry_end : (a b f r : List Op) → entry_to a b (length r) (f ++ r) ≡ entry_code a b f ++ r
entry_end a b f r =
    ap (λ l. operand_to a 1 (length r) (operand_to b 2 (length r) (apply put_entry 3 ∷ l))) (guard_end false 0 f r)
    ∙ ap (operand_to a 1 (length r)) (operand_end b 2 (apply put_entry 3 ∷ guard 0 (length f) ∷ f) r)
    ∙ operand_end a 1 (operand b 2 (apply put_entry 3 ∷ guard 0 (length f) ∷ f)) r

pub entries_end : (ps : List (List Op × List Op)) (f r : List Op) → entries_to ps (length r) (f ++ r) ≡ entries_code ps f ++ r
entries_end [] f r = refl
entries_end (p ∷ ps) f r = ap (entry_to p.0 p.1 (length r)) (entries_end ps f r) ∙ entry_end p.0 p.1 (entries_code ps f) r

pub logic_end : (s : Bool) (a b r : List Op) → let m = b ++ join s ∷ r in a ++ absorb s (length m - length r) ∷ m ≡ logic s a b ++ r
logic_end s a b r =
    let m = b ++ join s ∷ r in
    let n : length m - length r ≡ length b + 1 = omega (arith, length-append b (join s ∷ r)) in
    ap (λ k. a ++ absorb s k ∷ m) n ∙ ap (λ l. a ++ absorb s (length b + 1) ∷ l) (sym (append_assoc b (join s ∷ []) r))
    ∙ sym (append_assoc a (absorb s (length b + 1) ∷ (b ++ join s ∷ [])) r)

pub choice_end : (name : List ℕ) (a b c r : List Op) → let m = b ++ skip (length (c ++ r) - length r) ∷ (c ++ r) in
    a ++ branch name (length m - length (c ++ r)) (length m - length r) ∷ m ≡ choice_code name a b c ++ r
choice_end name a b c r =
    let s = length (c ++ r) - length r in
    let m = b ++ skip s ∷ (c ++ r) in
    let on_false : length m - length (c ++ r) ≡ length b + 1 = omega (arith, length-append b (skip s ∷ (c ++ r))) in
    let offset : length m - length r ≡ length b + 1 + length c = omega (arith, length-append b (skip s ∷ (c ++ r)), length-append c r) in
    ap (λ k. a ++ branch name k (length m - length r) ∷ m) on_false ∙ ap (λ k. a ++ branch name (length b + 1) k ∷ m) offset
    ∙ ap (λ k. a ++ branch name (length b + 1) (length b + 1 + length c) ∷ (b ++ skip k ∷ (c ++ r))) (past c r)
    ∙ ap (λ l. a ++ branch name (length b + 1) (length b + 1 + length c) ∷ l) (sym (append_assoc b (skip (length c) ∷ c) r))
    ∙ sym (append_assoc a (branch name (length b + 1) (length b + 1 + length c) ∷ (b ++ skip (length c) ∷ c)) r)

pub loop_end : (k : MacroKind) (f : Bool) (b r : List Op) → let m = b ++ next k f ∷ r in begin k (length m - length r) ∷ m ≡ loop k f [] b ++ r
loop_end k f b r =
    let m = b ++ next k f ∷ r in
    let n : length m - length r ≡ length b + 1 = omega (arith, length-append b (next k f ∷ r)) in
    ap (λ j. begin k j ∷ m) n ∙ ap (λ l. begin k (length b + 1) ∷ l) (sym (append_assoc b (next k f ∷ []) r))

-- a macro is its range, then the rest of it
in_front : (k : MacroKind) (range : List Op) (cs : List (List Op)) (b : List Op) → range ++ macro_code k [] cs b ≡ macro_code k range cs b
in_front All range cs b = refl
in_front Exists range cs b = refl
in_front ExistsOne range cs b = refl
in_front Filter range cs b = refl
in_front Map range [] b = refl
in_front Map range (c ∷ cs) b = refl

pub macro_end : (k : MacroKind) (range : List Op) (cs : List (List Op)) (b r : List Op) → range ++ (macro_code k [] cs b ++ r) ≡ macro_code k range cs b ++ r
macro_end k range cs b r = sym (append_assoc range (macro_code k [] cs b) r) ∙ ap (λ l. l ++ r) (in_front k range cs b)

pub unfiltered : (k : MacroKind) (b : List Op) → loop k false [] b ≡ macro_code k [] [] b
unfiltered All b = refl
unfiltered Exists b = refl
unfiltered ExistsOne b = refl
unfiltered Filter b = refl
unfiltered Map b = refl

pub form_end : (x : List ℕ) (r : Bool) (n : ℕ) (c rest : List Op) → form x r n (length (c ++ rest) - length rest) ∷ (c ++ rest) ≡ after_form x r n c ++ rest
form_end x r n c rest = ap (λ k. form x r n k ∷ (c ++ rest)) (past c rest)

-- ---- what calls have written, `end` being the length of the code r

pub on_ok : {X E P Q : Type 0} (r : Result X E) → OnOk r P → (P → Q) → OnOk r Q
on_ok (Ok x) p f = f p
on_ok (Err e) p f = p

pub operand_written : (a : List Op) (k : ℕ) (r c front : List Op) (end : ℕ) → end ≡ length r → c ≡ front ++ r → operand_to a k end c ≡ operand a k front ++ r
operand_written a k r c front end n e = ap (λ m. operand_to a k m c) n ∙ ap (operand_to a k (length r)) e ∙ operand_end a k front r

pub operands_written : (cs : List (List Op)) (k : ℕ) (i : Op) (r c whole : List Op) (end : ℕ) → end ≡ length r → c ≡ i ∷ r → whole ≡ operands cs k (i ∷ []) → operands_to cs k end c ≡ whole ++ r
operands_written cs k i r c whole end n e h =
    ap (λ m. operands_to cs k m c) n ∙ ap (operands_to cs k (length r)) e ∙ operands_end cs k (i ∷ []) r ∙ ap (λ l. l ++ r) (sym h)

pub form_written : (x : List ℕ) (b : Bool) (count n : ℕ) (r c whole new : List Op) (end : ℕ) → end ≡ length r → count ≡ n → c ≡ whole ++ r → new ≡ form x b count (length c - end) ∷ c → new ≡ after_form x b n whole ++ r
form_written x b count n r c whole new end e m h w =
    w ∙ ap (λ k. form x b count (length c - k) ∷ c) e ∙ ap (λ l. form x b count (length l - length r) ∷ l) h
    ∙ ap (λ k. form x b k (length (whole ++ r) - length r) ∷ (whole ++ r)) m ∙ form_end x b n whole r

pub macro_written : (k : MacroKind) (range : List Op) (cs : List (List Op)) (b r c whole : List Op) → c ≡ macro_code k [] cs b ++ r → whole ≡ macro_code k range cs b → range ++ c ≡ whole ++ r
macro_written k range cs b r c whole e h = ap (λ l. range ++ l) e ∙ macro_end k range cs b r ∙ ap (λ l. l ++ r) (sym h)

-- ---- trees with several parts

pub count_terms : (es : List Expr) → count_of (terms_of (map term es)) ≡ length es
count_terms [] = refl
count_terms (e ∷ es) = ap suc (count_terms es)

item_nodes : (es : List Expr) (k : ℕ) (d : Expr) → k < length es → nodes (term (get_or es k d)) ≤ all_nodes (terms_of (map term es))
item_nodes [] k d h = absurd (omega (arith, h))
item_nodes (e ∷ es) zero d h = omega arith
item_nodes (e ∷ es) (suc k) d h = let less : k < length es = omega (arith, h) in omega (arith, item_nodes es k d less)

pair_nodes_of : (ps : List (Expr × Expr)) (k : ℕ) (d : Expr × Expr) → k < length ps
    → nodes (term (get_or ps k d).0) + nodes (term (get_or ps k d).1) ≤ pair_nodes (pairs_of (map (λ p. (term p.0, term p.1)) ps))
pair_nodes_of [] k d h = absurd (omega (arith, h))
pair_nodes_of (p ∷ ps) zero d h = omega arith
pair_nodes_of (p ∷ ps) (suc k) d h = let less : k < length ps = omega (arith, h) in omega (arith, pair_nodes_of ps k d less)

pub fewer_in_item : (es : List Expr) (k n : ℕ) (e : Expr) → 0 < k → k ≤ n → n ≡ length es → e ≡ get_or es (k - 1) e → nodes (term e) ≤ all_nodes (terms_of (map term es))
fewer_in_item es k n e a b m h = let less : k - 1 < length es = omega (arith, a, b, m) in omega (arith, ap (λ x. nodes (term x)) h, item_nodes es (k - 1) e less)

pub fewer_in_pair : (ps : List (Expr × Expr)) (k n : ℕ) (p : Expr × Expr) → 0 < k → k ≤ n → n ≡ length ps → p ≡ get_or ps (k - 1) p
    → nodes (term p.0) + nodes (term p.1) ≤ pair_nodes (pairs_of (map (λ p. (term p.0, term p.1)) ps))
fewer_in_pair ps k n p a b m h =
    let less : k - 1 < length ps = omega (arith, a, b, m) in omega (arith, ap (λ x. nodes (term x.0) + nodes (term x.1)) h, pair_nodes_of ps (k - 1) p less)
