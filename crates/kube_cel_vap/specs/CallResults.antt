-- Trusted by the clauses of policies.
-- The results of calls, each with a book of its own.
use Rattle.cel.specs.Book.{Extends, Book, IsBook}
use Rattle.cel.specs.Bindings.{Bindings}
use Rattle.kube_cel_vap.specs.Validations.{ExpressionData, result_view}
use Rattle.kube_cel_vap.specs.declared.expression.VapResult.{VapResult}
use Rattle.kube_cel_vap.specs.Expressions.{Compiled, Unread}
use Rattle.kube_cel_vap.specs.Results.{compiled_result, compiled_results, policy_results}
use Rattle.kube_cel_vap.specs.Variables.{Variables}
use Rattle.std.specs.Prelude.{◌≡◌, List, map, Result}

-- the results of these expressions, under some book
abbrev pub AreResultsOf : Variables → List ExpressionData → List VapResult → Type 0
AreResultsOf v xs reported = (b : Book) × IsBook b × (map result_view reported ≡ policy_results b v xs)

-- the results of these compiled expressions, under some book
abbrev pub AreResultsOfCompiled : Variables → List (Result Compiled Unread) → List VapResult → Type 0
AreResultsOfCompiled v cs reported =
    (b : Book) × IsBook b × (map result_view reported ≡ compiled_results b v cs)

-- the results under these bindings, and under every book that extends this one
abbrev pub AreResultsUnder : Book → Bindings → List (Result Compiled Unread) → List VapResult → Type 0
AreResultsUnder known e cs reported =
    (b : Book) → Extends b known → map result_view reported ≡ map (compiled_result b e) cs
