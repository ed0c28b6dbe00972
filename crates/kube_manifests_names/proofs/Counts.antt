-- The number of expressions.
use Rattle.cel_syntax_ast.specs.Term.{count_of, term, terms_of}
use Rattle.cel_syntax_ast.specs.declared.expr.Expr.{Expr}
use Rattle.std.proofs.Common.{◌≡◌, suc, List, [], ◌∷◌, length, map, refl, ap}

pub count_is : (xs : List Expr) → count_of (terms_of (map term xs)) ≡ length xs
count_is [] = refl
count_is (x ∷ xs) = ap suc (count_is xs)
