-- Scaffolding: only proofs and private clauses cite it.
-- The answers of the parser's functions as contracts see them.
use Rattle.std.specs.Prelude.{◌≡◌, ℕ, List, Vec, map, Some, None, Result, Ok, Err}
use Rattle.std.specs.declared.alloc.Global.{Global}
use Rattle.cel_syntax_lexer.specs.Token.{Token}
use Rattle.cel_syntax_ast.specs.Term.{Term, term}
use Rattle.cel_syntax_ast.specs.declared.expr.Expr.{Expr}
use Rattle.cel_syntax.specs.Parser.{Outcome, Found}
use Rattle.cel_syntax.specs.declared.syntax_error.SyntaxError.{SyntaxError}
use Rattle.cel_syntax.specs.declared.syntax_error.SyntaxError.TheVariants.{Memory, Invalid}

-- what a function that parses a tree ensures: the parser's outcome, unless memory runs out
abbrev pub Reads : Outcome Found → Result (Expr × ℕ) SyntaxError → List Token → Type 0
Reads outcome (Ok x) new = outcome ≡ Some ((term x.0, x.1), new)
Reads outcome (Err Memory) new = Unit {0}
Reads outcome (Err Invalid) new = outcome ≡ None

-- the same for a function that parses trees separated by commas
abbrev pub ReadsItems : Outcome (List Term × ℕ) → Result (Vec Expr Global × ℕ) SyntaxError
    → List Token → Type 0
ReadsItems outcome (Ok x) new = outcome ≡ Some ((map term x.0.items, x.1), new)
ReadsItems outcome (Err Memory) new = Unit {0}
ReadsItems outcome (Err Invalid) new = outcome ≡ None

-- and for one that parses pairs separated by commas
abbrev pub ReadsEntries : Outcome (List (Term × Term) × ℕ) → Result (Vec (Expr × Expr) Global × ℕ) SyntaxError
    → List Token → Type 0
ReadsEntries outcome (Ok x) new = outcome ≡ Some ((map (λ p. (term p.0, term p.1)) x.0.items, x.1), new)
ReadsEntries outcome (Err Memory) new = Unit {0}
ReadsEntries outcome (Err Invalid) new = outcome ≡ None

abbrev pub ReadsPair : Outcome ((Term × Term) × ℕ) → Result ((Expr × Expr) × ℕ) SyntaxError
    → List Token → Type 0
ReadsPair outcome (Ok x) new = outcome ≡ Some (((term x.0.0, term x.0.1), x.1), new)
ReadsPair outcome (Err Memory) new = Unit {0}
ReadsPair outcome (Err Invalid) new = outcome ≡ None
