-- Scaffolding: only proofs and private clauses cite it.
-- The operators that follow an operand, level by
-- level: the rest of `chain` after its first operand.
use Rattle.std.specs.Prelude.{ℕ, zero, suc}
use Rattle.cel_syntax.specs.Parser.{Parser, Found, ◌>>=◌, pure, chain, turns}

module _ (limit : ℕ) (sub : Parser Found) where
  unfoldable pub climb : ℕ → Found → Parser Found
  climb zero x = pure x
  climb (suc k) x = climb k x >>= λ y. turns limit sub (chain limit sub k) (suc k) limit y.0 y.1
