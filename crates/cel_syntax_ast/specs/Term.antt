-- Trusted by the headline.
-- The tree of an expression as contracts see it (abstract syntax of the CEL language definition).
use Rattle.std.specs.Prelude.{ℕ, suc, zero, List, [], ◌∷◌, Option, Some, None, Box, Bool, true, false}
use Rattle.std.specs.declared.alloc.Global.{Global}
use Rattle.cel_value.specs.Data.{Data}
use Rattle.cel_value.specs.View.{view}
use Rattle.cel_syntax_ast.specs.declared.expr.UnaryOperator.{UnaryOperator}
use Rattle.cel_syntax_ast.specs.declared.expr.BinaryOperator.{BinaryOperator}
use Rattle.cel_syntax_ast.specs.declared.expr.MacroKind.{MacroKind}
use Rattle.cel_syntax_ast.specs.declared.expr.Expr.{Expr, fold-Expr}
use Rattle.cel_syntax_ast.specs.declared.expr.Expr.TheOpen.{Expr-F}

mutual
  pub data Term : Type 0 where
    literal : Data → Term
    ident : List ℕ → Term
    select : Term → List ℕ → Term
    -- whether the operand has the member
    has : Term → List ℕ → Term
    -- the operand, then the index
    index : Term → Term → Term
    unary : UnaryOperator → Term → Term
    binary : BinaryOperator → Term → Term → Term
    -- the condition, the branch if it is true, the branch if it is false
    conditional : Term → Term → Term → Term
    list_of : Terms → Term
    map_with : Pairs → Term
    -- the target, if any, the name, the arguments
    call : Terms → List ℕ → Terms → Term
    -- a name with a dot, the arguments
    qualified : List ℕ → Terms → Term
    -- the range, the variable, at most one filter, the body
    macro : MacroKind → Term → List ℕ → Terms → Term → Term

  pub data Terms : Type 0 where
    no_terms : Terms
    term_and : Term → Terms → Terms

  -- keys with their values
  pub data Pairs : Type 0 where
    no_pairs : Pairs
    pair_and : Term → Term → Pairs → Pairs

-- an optional term
abbrev pub one_of : Option (Box Term Global) → Terms
one_of None = no_terms
one_of (Some b) = term_and b.value no_terms

abbrev pub terms_of : List Term → Terms
terms_of [] = no_terms
terms_of (t ∷ ts) = term_and t (terms_of ts)

abbrev pub pairs_of : List (Term × Term) → Pairs
pairs_of [] = no_pairs
pairs_of (p ∷ ps) = pair_and p.0 p.1 (pairs_of ps)

-- the number of terms
abbrev pub count_of : Terms → ℕ
count_of no_terms = zero
count_of (term_and t ts) = suc (count_of ts)

-- the node of an expression, given the terms of its parts
abbrev pub term_step : Expr-F Term → Term
term_step (Expr-F.Literal v) = literal (view v)
term_step (Expr-F.Ident x) = ident x
term_step (Expr-F.Select a x) = select a.value x
term_step (Expr-F.Has a x) = has a.value x
term_step (Expr-F.Index a b) = index a.value b.value
term_step (Expr-F.Unary op a) = unary op a.value
term_step (Expr-F.Binary op a b) = binary op a.value b.value
term_step (Expr-F.Cond a b c) = conditional a.value b.value c.value
term_step (Expr-F.List ts) = list_of (terms_of ts.items)
term_step (Expr-F.Map ps) = map_with (pairs_of ps.items)
term_step (Expr-F.Call a x ts) = call (one_of a) x (terms_of ts.items)
term_step (Expr-F.Qualified x ts) = qualified x (terms_of ts.items)
term_step (Expr-F.Macro k r x f b) = macro k r.value x (one_of f) b.value

-- the term of an expression
abbrev pub term : Expr → Term
term = fold-Expr Term term_step

abbrev pub is_there : Terms → Bool
is_there no_terms = false
is_there (term_and t ts) = true
