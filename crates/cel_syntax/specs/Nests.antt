-- Scaffolding: only proofs and private clauses cite it.
-- Function values that parse expressions below a limit.
use Rattle.std.specs.Prelude.{◌≡◌, ℕ, ◌+◌, Result}
use Rattle.std.specs.declared.alloc.Global.{Global}
use denote.Ref.{MutBor}
use Rattle.cel_syntax_ast.specs.declared.expr.Expr.{Expr}
use Rattle.cel_syntax.specs.declared.cursor.Cursor.{Cursor}
use Rattle.cel_syntax.specs.declared.syntax_error.SyntaxError.{SyntaxError}
use Rattle.cel_syntax.specs.Parser.{expr}
use Rattle.cel_syntax.specs.Ahead.{tokens_left}
use Rattle.cel_syntax.specs.Reads.{Reads}

pub record Nests (limit : ℕ) (pre : Global → MutBor Cursor → ℕ → Type 0)
    (post : Global → MutBor Cursor → ℕ → Result (Expr × ℕ) SyntaxError → MutBor Cursor
    → Type 0) : Type 0 where
  pub callable : (alloc : Global) (old : MutBor Cursor) (n : ℕ) → n + 1 ≡ limit → pre alloc old n
  pub reads : (alloc : Global) (old new : MutBor Cursor) (n : ℕ) (r : Result (Expr × ℕ) SyntaxError)
      → post alloc old n r new
      → Reads (expr n (tokens_left old.now)) r (tokens_left new.now)
