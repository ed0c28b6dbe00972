-- An expression by the trees of its texts.
use Rattle.cel.specs.Checks.{Trees, Unread as Failing, trees_of}
use Rattle.cel_syntax.specs.Reading.{tree_of}
use Rattle.kube_cel_vap.specs.Expressions.{Compiled, Unread, compile_result, compiled_of}
use Rattle.kube_cel_vap.specs.Validations.{ExpressionData}
use Rattle.std.proofs.Common.{◌≡◌, ℕ, List, Option, Result, ap, ◌∙◌}

pub compiled_so : (x : ExpressionData) (s : List ℕ) (m : Option (List ℕ)) (q : Result Trees Failing) (r : Result Compiled Unread) → s ≡ x.expression → m ≡ x.message_expression → q ≡ trees_of tree_of s m
    → r ≡ compiled_of x q → r ≡ compile_result x
unfolding compile_result
compiled_so x s m q r p o h k = k ∙ ap (compiled_of x) (h ∙ (λ i. trees_of tree_of (p i) (o i)))
