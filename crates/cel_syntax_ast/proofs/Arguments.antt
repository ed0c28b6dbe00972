-- Arguments, by their number.
use Rattle.std.proofs.Common.{◌≡◌, ◌≢◌, suc, refl, ap, arith, None, List, [], ◌∷◌, length, map, get_or}
use Rattle.cel_syntax_ast.specs.Term.{Term, term}
use Rattle.cel_syntax_ast.specs.declared.expr.Expr.{Expr}
use Rattle.cel_syntax_ast.specs.declared.expr.MacroKind.{MacroKind}
use Rattle.cel_syntax_ast.specs.Calls.{macro_of}

pub length_terms : (es : List Expr) → length (map term es) ≡ length es
length_terms [] = refl
length_terms (e ∷ es) = ap suc (length_terms es)

pub macro_of_others : (k : MacroKind) (t : Term) (us : List Term) → length us ≢ 2 → length us ≢ 3 → macro_of k t us ≡ None
macro_of_others k t [] a b = refl
macro_of_others k t (x ∷ []) a b = refl
macro_of_others k t (x ∷ y ∷ []) a b = absurd (omega arith)
macro_of_others k t (x ∷ y ∷ z ∷ []) a b = absurd (omega arith)
macro_of_others k t (x ∷ y ∷ z ∷ w ∷ us) a b = refl

pub one_term : (es : List Expr) (d : Expr) → length es ≡ 1 → map term es ≡ term (get_or es 0 d) ∷ []
one_term [] d h = absurd (omega arith)
one_term (x ∷ []) d h = refl
one_term (x ∷ y ∷ es) d h = absurd (omega arith)

pub two_terms : (es : List Expr) (d e : Expr) → length es ≡ 2 → map term es ≡ term (get_or es 0 d) ∷ term (get_or es 1 e) ∷ []
two_terms [] d e h = absurd (omega arith)
two_terms (x ∷ []) d e h = absurd (omega arith)
two_terms (x ∷ y ∷ []) d e h = refl
two_terms (x ∷ y ∷ z ∷ es) d e h = absurd (omega arith)

pub three_terms : (es : List Expr) (d e f : Expr) → length es ≡ 3 → map term es ≡ term (get_or es 0 d) ∷ term (get_or es 1 e) ∷ term (get_or es 2 f) ∷ []
three_terms [] d e f h = absurd (omega arith)
three_terms (x ∷ []) d e f h = absurd (omega arith)
three_terms (x ∷ y ∷ []) d e f h = absurd (omega arith)
three_terms (x ∷ y ∷ z ∷ []) d e f h = refl
three_terms (x ∷ y ∷ z ∷ w ∷ es) d e f h = absurd (omega arith)
