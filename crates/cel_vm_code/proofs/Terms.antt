-- The term of each kind of tree.
use Rattle.std.proofs.Common.{◌≡◌, Some, None, Box, map, sym, ap, ◌∙◌}
use Rattle.std.specs.declared.alloc.Global.{Global}
use Rattle.cel_syntax_ast.specs.Term.{Term, select, has, index, unary, binary, conditional, list_of, map_with, macro, no_terms, term_and, term, term_step, terms_of, pairs_of}
use Rattle.cel_syntax_ast.specs.declared.expr.Expr.{Expr, Expr-F, fold-roll-Expr}
use Rattle.cel_syntax_ast.specs.declared.expr.Expr.TheVariants as expr

pub is_select : (a : _) (x : _) → term (expr.Select a x) ≡ select (term a.value) x
is_select a x = ap term (sym (expr.rolls-Select a x)) ∙ fold-roll-Expr Term term_step (Expr-F.Select a x)

pub is_has : (a : _) (x : _) → term (expr.Has a x) ≡ has (term a.value) x
is_has a x = ap term (sym (expr.rolls-Has a x)) ∙ fold-roll-Expr Term term_step (Expr-F.Has a x)

pub is_index : (a : _) (b : _) → term (expr.Index a b) ≡ index (term a.value) (term b.value)
is_index a b = ap term (sym (expr.rolls-Index a b)) ∙ fold-roll-Expr Term term_step (Expr-F.Index a b)

pub is_unary : (o : _) (a : _) → term (expr.Unary o a) ≡ unary o (term a.value)
is_unary o a = ap term (sym (expr.rolls-Unary o a)) ∙ fold-roll-Expr Term term_step (Expr-F.Unary o a)

pub is_binary : (o : _) (a : _) (b : _) → term (expr.Binary o a b) ≡ binary o (term a.value) (term b.value)
is_binary o a b = ap term (sym (expr.rolls-Binary o a b)) ∙ fold-roll-Expr Term term_step (Expr-F.Binary o a b)

pub is_conditional : (a : _) (b : _) (c : _) → term (expr.Cond a b c) ≡ conditional (term a.value) (term b.value) (term c.value)
is_conditional a b c = ap term (sym (expr.rolls-Cond a b c)) ∙ fold-roll-Expr Term term_step (Expr-F.Cond a b c)

pub is_list : (ts : _) → term (expr.List ts) ≡ list_of (terms_of (map term ts.items))
is_list ts = ap term (sym (expr.rolls-List ts)) ∙ fold-roll-Expr Term term_step (Expr-F.List ts)

pub is_map : (ps : _) → term (expr.Map ps) ≡ map_with (pairs_of (map (λ p. (term p.0, term p.1)) ps.items))
is_map ps = ap term (sym (expr.rolls-Map ps)) ∙ fold-roll-Expr Term term_step (Expr-F.Map ps)

pub is_macro_alone : (k : _) (r : _) (x : _) (b : _) → term (expr.Macro k r x None b) ≡ macro k (term r.value) x no_terms (term b.value)
is_macro_alone k r x b = ap term (sym (expr.rolls-Macro k r x None b)) ∙ fold-roll-Expr Term term_step (Expr-F.Macro k r x None b)

pub is_macro_with : (k : _) (r : _) (x : _) (f : Box Expr Global) (b : _) → term (expr.Macro k r x (Some f) b) ≡ macro k (term r.value) x (term_and (term f.value) no_terms) (term b.value)
is_macro_with k r x f b = ap term (sym (expr.rolls-Macro k r x (Some f) b)) ∙ fold-roll-Expr Term term_step (Expr-F.Macro k r x (Some f) b)
