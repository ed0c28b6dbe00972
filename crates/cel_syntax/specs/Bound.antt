-- Scaffolding: only proofs and private clauses cite it.
-- The names that enclosing macros bind, the innermost first.
use Rattle.std.specs.Prelude.{ℕ, List, [], ◌∷◌}
use Rattle.cel_syntax.specs.declared.bound.Bound.{Bound, fold-Bound}
use Rattle.cel_syntax.specs.declared.bound.Bound.TheOpen.{Bound-F}

abbrev pub bound_step : Bound-F (List (List ℕ)) → List (List ℕ)
bound_step Bound-F.Nothing = []
bound_step (Bound-F.Variable y outer) = y.now ∷ outer.now

abbrev pub bound_names : Bound → List (List ℕ)
bound_names = fold-Bound (List (List ℕ)) bound_step
