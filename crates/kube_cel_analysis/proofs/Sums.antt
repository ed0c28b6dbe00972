-- Saturating sums.
use native.Mathlib.Omega.{arith}
use Rattle.std.proofs.Common.{◌≡◌, ℕ}
use Rattle.cel_syntax.specs.Term.{Terms, no_terms, term_and}
use Rattle.kube_cel_analysis.specs.Cost.{Sizes, cost_of_all, sum}

-- saturating addition is associative
pub sum_on : (a b c : ℕ) → sum (sum a b) c ≡ sum a (sum b c)
unfolding sum
sum_on a b c = omega arith

pub nothing_yet : (s : Sizes) (ts : Terms) → sum 0 (cost_of_all s ts) ≡ cost_of_all s ts
unfolding sum
nothing_yet s no_terms = omega arith
nothing_yet s (term_and t ts) = omega arith

pub nothing_more : (a b : ℕ) → sum (sum a b) 0 ≡ sum a b
unfolding sum
nothing_more a b = omega arith

pub nothing_at_all : sum 0 0 ≡ 0
unfolding sum
nothing_at_all = omega arith
